use Rattle.std.proofs.Common.{◌∙◌, ◌++◌, ◌&&◌, length, map, not, sym, ap, subst}
use Rattle.std.specs.List.{list_any}
use Rattle.indexmap.specs.IndexMap.{get}
use Rattle.spx_core.specs.Formals.{formals}
use Rattle.spx_passes.specs.Occurrences.{AreRows}
use Rattle.spx_derives.specs.declared.finding.FlowFinding.TheVariants.{Ineffective}
use Rattle.spx_derives.specs.Differences.{differences_from}
use Rattle.spx_derives.specs.Tables.{is_effective, same_var, stands_at, unset_read}
use Rattle.spx_derives.proofs.Findings.{are_findings, once_places}
use Rattle.spx_derives.proofs.derives.findings.Goals as goal

pub ineffective_places-requires : goal.ineffective_places-requires
ineffective_places-requires c =
    subst (λ n. AreRows n c.as_slice.result.now) (sym c.in_ok-tables.ensures.row_size)
    (subst (AreRows (length c.args.sub.now.vars)) (sym c.as_slice.ensures) c.requires.flow.mu_rows)

pub add_differences-requires-clause-flows : goal.add_differences-requires-clause-flows
add_differences-requires-clause-flows c = c.requires.flow.size

pub add_differences-requires-clause-declared : goal.add_differences-requires-clause-declared
add_differences-requires-clause-declared c = c.in_ok-tables.ensures.pairs_size

pub returns : goal.returns
returns c =
    let tables = c.in_ok-tables.tables in
    let vars = formals c.args.sub.now in
    let differences = differences_from c.args.rho.now tables.declared (get same_var tables.exports) vars 0 vars in
    let places = c.in_ok-ineffective.ineffective.keys in
    are_findings c.args.program.now c.args.sub.now c.args.rho.now c.args.mu.now c.requires.scoped c.requires.marks c.requires.flow tables c.in_ok-tables.ensures places
    (λ q. c.in_ok-ineffective.ensures.places q ∙ ap (λ list. list_any (stands_at q) list && not (list_any (is_effective tables.exported q) list)) c.as_slice.ensures)
    (once_places places c.in_ok-ineffective.ensures.once) c.args.unset.now
    c.requires.unset
    c.add_unset_reads.new.found.items
    (c.in_ok-add_unset_reads.ensures
    ∙ ap (λ front. front ++ map unset_read c.args.unset.now)
    ((rw c.get.ensures at c.in_ok-add_ineffective.ensures)
    ∙ ap (λ front. front ++ map Ineffective places)
    (c.in_ok-add_differences.ensures ∙ ap (λ front. front ++ differences) c.new-found.ensures.items)))
