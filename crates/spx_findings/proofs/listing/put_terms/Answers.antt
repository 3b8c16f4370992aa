use Rattle.std.proofs.Common.{◌+◌, ◌<◌, length, take, get_or, append_assoc, arith}
use Rattle.spx_findings.specs.Listing.{term_line, term_lines}
use Rattle.spx_findings.proofs.ListingLaws.{term_lines_more}
use Rattle.spx_findings.proofs.listing.put_terms.Goals as goal

pub loop-at-preserved : goal.loop-at-preserved
loop-at-preserved c =
    let declared = c.args.declared.now in
    let letter = c.args.letter.now in
    let terms = c.args.terms.now in
    let at = c.loop-at.at in
    let term = c.index-terms-at.result in
    let within : at < length terms = omega arith in
    let more = term_lines_more declared letter terms at term within in
    let seam = append_assoc c.args.out.now.items (term_lines declared letter 1 (take at terms)) (term_line declared letter (at + 1) (get_or terms at term)) in
    cc (c.in_ok-put_term.ensures)
