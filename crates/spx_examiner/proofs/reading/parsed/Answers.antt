use Rattle.std.proofs.Common.{Err, refl, subst}
use Rattle.spx_tree.specs.Written.{written}
use Rattle.spx_tree.specs.Grammar.{IsFile}
use Rattle.spx_parse_unit.specs.declared.fault.ParseFault.{ParseFault}
use Rattle.spx_parse_unit.specs.Answers.{SaysAll}
use Rattle.spx_examiner.specs.Reading.{nested, whole}
use Rattle.spx_examiner.proofs.Spelled.{expected_is_read}
use Rattle.spx_examiner.proofs.reading.parsed.Goals as goal

pub returns-in-Ok : goal.returns-in-Ok
returns-in-Ok c = whole c.args.tokens.now.list.items c.in-Ok.units c.requires.tokens c.in-Ok.ensures.answers refl

pub returns-in_ok-expected-in-Err-Expected : goal.returns-in_ok-expected-in-Err-Expected
returns-in_ok-expected-in-Err-Expected c =
    let says = subst (λ (f : ParseFault). SaysAll written IsFile 200 c.args.tokens.now.end c.args.tokens.now.source.now c.args.tokens.now.list.items (Err f)) c.in-Err-Expected.field-0-is c.in-Err-Expected.ensures.answers in
    expected_is_read c.args.tokens.now.source.now c.args.tokens.now.list.items c.args.tokens.now.end c.in-Err-Expected.place c.in_ok-expected-in-Err-Expected.field-0
    c.requires.tokens c.requires.end says c.in_ok-expected-in-Err-Expected.ensures

pub returns-in-Err-TooDeep : goal.returns-in-Err-TooDeep
returns-in-Err-TooDeep c =
    let says = subst (λ (f : ParseFault). SaysAll written IsFile 200 c.args.tokens.now.end c.args.tokens.now.source.now c.args.tokens.now.list.items (Err f)) c.in-Err-TooDeep.field-0-is c.in-Err-TooDeep.ensures.answers in
    nested c.args.tokens.now.list.items says.0 c.requires.tokens says.1 refl
