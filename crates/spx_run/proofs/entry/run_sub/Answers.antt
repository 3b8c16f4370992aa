use Rattle.std.proofs.Common.{◌≡◌, ◌<◌, ℕ, List, length, get_or, Option, Some, refl, sym, ap, subst, ◌∙◌, rules}
use Rattle.std.proofs.lemmas.Option.{slice_get_read}
use Rattle.std.specs.Prelude.{IfOk, slice_get}
use Rattle.spx_core.specs.declared.subprogram.Sub.{Sub}
use Rattle.spx_core.specs.Scopes.{Scoped}
use Rattle.spx_run.specs.declared.result.RunResult.{RunResult}
use Rattle.spx_run.specs.Results.{result_on}
use Rattle.spx_run.proofs.GivenLaws.{imports_are_declared}
use Rattle.spx_run.proofs.entry.run_sub.Goals as goal

sub_at : (subs slice : List Sub) (id : ℕ) (sub : Sub) → id < length subs → slice ≡ subs → sub ≡ get_or slice id sub → slice_get subs id ≡ Some sub
sub_at subs slice id sub within same is = slice_get_read subs (length subs) id sub refl within (is ∙ ap (λ (list : List Sub). get_or list id sub) same)

pub run_entry-requires-clause-declared : goal.run_entry-requires-clause-declared
run_entry-requires-clause-declared c =
    let p = c.args.program.now in
    let sub = c.index-as_slice-id.result in
    let scoped : Scoped p sub = search (rules, c.names_are_scoped.ensures p c.requires.visible c.args.id.0 sub c.requires.id) in
    imports_are_declared p sub scoped

pub returns : goal.returns
returns c =
    let p = c.args.program.now in
    let at : slice_get p.subs c.args.id.0 ≡ Some c.index-as_slice-id.result = sub_at p.subs c.as_slice.result.now c.args.id.0 c.index-as_slice-id.result c.requires.id c.as_slice.ensures c.index-as_slice-id.is in
    subst (λ (o : Option Sub). IfOk c.run_entry.result (λ (found : RunResult). found ≡ result_on p o c.args.turns c.args.file c.args.inputs.now)) (sym at) c.run_entry.ensures
