use Rattle.std.proofs.Common.{◌≡◌, ◌⊎◌, inl, inr, ℕ, List, ap, sym, subst, ◌∙◌}
use Rattle.spx_text.specs.declared.place.Place.{Place}
use Rattle.spx_tree.specs.Stops.{too_wide, HasMoreTokens, most_tokens}
use Rattle.spx_lexer.specs.declared.lexer.LexFault.{LexFault}
use Rattle.spx_lexer.specs.declared.lexer.LexFault.TheVariants.{BadByte, BadNumber, TooWide, Memory}
use Rattle.spx_lexer.specs.Faults.{IsFaultOf}
use Rattle.spx_run.specs.Mirror.{AreNatural, line_in}
use Rattle.spx_run.proofs.ReadingLaws.{if_ok, read_as, unspelled}
use Rattle.spx_run.proofs.TokenLaws.{natural}
use Rattle.spx_run.proofs.reading.read_line.Goals as goal

pub line_in-requires-clause-natural : goal.line_in-requires-clause-natural
line_in-requires-clause-natural c = subst AreNatural (sym c.as_slice.ensures.value) (natural 0 c.args.bytes.now c.in-Ok.tokens.list.items c.in-Ok.ensures.tokens)

-- where tokens spell the bytes
pub returns-in-Ok : goal.returns-in-Ok
returns-in-Ok c =
    let bytes = c.args.bytes.now in
    let tokens = c.in-Ok.tokens.list.items in
    if_ok c.line_in.result _ _
    (λ found is.
    read_as c.one_spelling.ensures c.args.number bytes (λ others ends. let stop = c.one_least.ensures.stopped 0 bytes others ends in c.in-Ok.ensures.stopped too_wide stop.0 stop.1 c.in-Ok.ensures.few) tokens c.in-Ok.ensures.tokens
    c.in-Ok.ensures.few found (is ∙ ap (line_in c.args.number bytes) c.as_slice.ensures.value))
    c.line_in.ensures

-- where another cause than a wide number stops them
no_byte : (why : LexFault) (at place : Place) → why ≡ BadByte at → (why ≡ TooWide place) ⊎ (why ≡ Memory) → ⊥
no_byte why at place is (inl e) = absurd cc
no_byte why at place is (inr e) = absurd cc

no_number : (why : LexFault) (at place : Place) → why ≡ BadNumber at → (why ≡ TooWide place) ⊎ (why ≡ Memory) → ⊥
no_number why at place is (inl e) = absurd cc
no_number why at place is (inr e) = absurd cc

pub returns-in-Err-BadByte : goal.returns-in-Err-BadByte
returns-in-Err-BadByte c =
    unspelled c.args.number c.args.bytes.now (λ tokens is few. let e : c.in-Err-BadByte.field-0 ≡ Memory = c.in-Err-BadByte.ensures.spelled tokens is few in absurd cc)
    (λ tokens ends few. let stop = c.one_least.ensures.stopped 0 c.args.bytes.now tokens ends in no_byte c.in-Err-BadByte.field-0 c.in-Err-BadByte.field-0-0 stop.0 c.in-Err-BadByte.field-0-is (c.in-Err-BadByte.ensures.stopped too_wide stop.0 stop.1 few))

pub returns-in-Err-BadNumber : goal.returns-in-Err-BadNumber
returns-in-Err-BadNumber c =
    unspelled c.args.number c.args.bytes.now (λ tokens is few. let e : c.in-Err-BadNumber.field-0 ≡ Memory = c.in-Err-BadNumber.ensures.spelled tokens is few in absurd cc)
    (λ tokens ends few. let stop = c.one_least.ensures.stopped 0 c.args.bytes.now tokens ends in no_number c.in-Err-BadNumber.field-0 c.in-Err-BadNumber.field-0-0 stop.0 c.in-Err-BadNumber.field-0-is (c.in-Err-BadNumber.ensures.stopped too_wide stop.0 stop.1 few))

-- where a wide number does
wide_few : (bytes : List ℕ) (why : LexFault) (place : Place) → why ≡ TooWide place → IsFaultOf 0 bytes why → ¬ HasMoreTokens most_tokens 0 bytes
wide_few bytes why place is h = (subst (IsFaultOf 0 bytes) is h).1

pub read_least-requires-clause-few : goal.read_least-requires-clause-few
read_least-requires-clause-few c = wide_few c.args.bytes.now c.in-Err-TooWide.field-0 c.in-Err-TooWide.field-0-0 c.in-Err-TooWide.field-0-is c.in-Err-TooWide.ensures.refused

pub read_least-requires-clause-unspelled : goal.read_least-requires-clause-unspelled
read_least-requires-clause-unspelled c = λ tokens is.
    let few = wide_few c.args.bytes.now c.in-Err-TooWide.field-0 c.in-Err-TooWide.field-0-0 c.in-Err-TooWide.field-0-is c.in-Err-TooWide.ensures.refused in
    let e : c.in-Err-TooWide.field-0 ≡ Memory = c.in-Err-TooWide.ensures.spelled tokens is few in absurd cc

-- where there are too many tokens
pub returns-in-Err-TooMany : goal.returns-in-Err-TooMany
returns-in-Err-TooMany c =
    let many = subst (IsFaultOf 0 c.args.bytes.now) c.in-Err-TooMany.field-0-is c.in-Err-TooMany.ensures.refused in
    unspelled c.args.number c.args.bytes.now (λ tokens is few. few many) (λ tokens ends few. few many)
