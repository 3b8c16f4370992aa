use Rattle.std.proofs.Common.{◌≡◌, ℕ, ◌≤◌, Bool, List, length, Option, Some, None, sym, subst}
use Rattle.spx_tree.specs.declared.token.Token.{Token}
use Rattle.spx_tree.specs.Stops.{HasMoreTokens, most_tokens}
use Rattle.spx_tree.proofs.OneSpelling.{one_spelling, stops_unspelled}
use Rattle.spx_lexer.specs.declared.lexer.LexFault.{LexFault}
use Rattle.spx_lexer.specs.declared.lexer.pieces.Cause.{Cause}
use Rattle.spx_lexer.specs.declared.lexer.positions.Position.{Position}
use Rattle.spx_lexer.specs.Faults.{reason_of, fault_of, IsFaultOf}
use Rattle.spx_lexer.specs.Reading.{HasRead, IsEnd}
use Rattle.spx_lexer.proofs.Reading.{read_all, read_stop, is_fault, refuses}
use Rattle.spx_lexer.proofs.Within.{spelled_within}
use Rattle.spx_lexer.proofs.lexer.lex.Goals as goal

-- where the text is stopped
stop_fault : (file : ℕ) (source : List ℕ) (tokens : List Token) (at : Position) (rest : List ℕ) (stop : Option Cause) (cause : Cause) (why : LexFault) → HasRead file source tokens at rest → IsEnd stop at.marked rest → stop ≡ Some cause
    → why ≡ fault_of (reason_of cause) at.place → ¬ HasMoreTokens most_tokens file source → IsFaultOf file source why
stop_fault file source tokens at rest stop cause why h end is said few =
    let here : IsEnd (Some cause) at.marked rest = subst (λ (o : Option Cause). IsEnd o at.marked rest) is end in
    subst (IsFaultOf file source) (sym said) (is_fault file source (reason_of cause) at.place (read_stop file source tokens at rest cause h here.0 here.1) few)

pub returns-in-Some-clause-refused : goal.returns-in-Some-clause-refused
returns-in-Some-clause-refused c =
    let r = c.in_ok-reading.reading in
    let known = c.in_ok-reading.ensures in
    stop_fault c.args.file c.args.source.now r.list.items r.at r.rest.now r.stop c.in-Some.cause c.fault_of.result known.read known.end c.in-Some.is c.fault_of.ensures known.few

pub returns-in-Some-clause-spelled : goal.returns-in-Some-clause-spelled
returns-in-Some-clause-spelled c = (refuses c.args.file c.args.source.now c.fault_of.result (returns-in-Some-clause-refused c)).spelled

pub returns-in-Some-clause-stopped : goal.returns-in-Some-clause-stopped
returns-in-Some-clause-stopped c = (refuses c.args.file c.args.source.now c.fault_of.result (returns-in-Some-clause-refused c)).stopped

-- where it is read to its end
none_left : (stop : Option Cause) (m : Bool) (rest : List ℕ) → IsEnd stop m rest → stop ≡ None → length rest ≤ 0
none_left stop m rest end is = subst (λ (o : Option Cause). IsEnd o m rest) is end

pub returns-clause-within : goal.returns-clause-within
returns-clause-within c =
    let r = c.in_ok-reading.reading in
    let known = c.in_ok-reading.ensures in
    let spelled = read_all c.args.file c.args.source.now r.list.items r.at r.rest.now known.read (none_left r.stop r.at.marked r.rest.now known.end c.in-None.is) in
    spelled_within c.args.file c.args.source.now r.list.items spelled

pub returns-clause-spelled : goal.returns-clause-spelled
returns-clause-spelled c =
    let r = c.in_ok-reading.reading in
    let known = c.in_ok-reading.ensures in
    let spelled = read_all c.args.file c.args.source.now r.list.items r.at r.rest.now known.read (none_left r.stop r.at.marked r.rest.now known.end c.in-None.is) in
    λ tokens s _. one_spelling c.args.file c.args.source.now r.list.items tokens spelled s

pub returns-clause-stopped : goal.returns-clause-stopped
returns-clause-stopped c =
    let r = c.in_ok-reading.reading in
    let known = c.in_ok-reading.ensures in
    let spelled = read_all c.args.file c.args.source.now r.list.items r.at r.rest.now known.read (none_left r.stop r.at.marked r.rest.now known.end c.in-None.is) in
    λ reason place s _. stops_unspelled c.args.file c.args.source.now reason place r.list.items s spelled
