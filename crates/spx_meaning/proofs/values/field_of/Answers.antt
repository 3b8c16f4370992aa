use Rattle.std.proofs.Common.{◌≡◌, ℕ, List, Option, Some, None, Bor, sym}
use Rattle.std.specs.Prelude.{IfNone, slice_get}
use Rattle.std.specs.Option.{option_copied}
use Rattle.spx_term.specs.declared.value.Value.{Value}
use Rattle.spx_term.specs.declared.value.Value.TheVariants.{Fields}
use Rattle.spx_term.specs.Values.{with_field}
use Rattle.spx_meaning.proofs.PartValues.{field_found, put_field_absent}
use Rattle.spx_meaning.proofs.values.field_of.Goals as goal

by_result : (x : Value) (xs : List Value) (k : ℕ) (found : Option (Bor Value)) → x ≡ Fields xs → option_copied found ≡ slice_get xs k → IfNone found ((part : Value) → with_field k part x ≡ x)
by_result x xs k (Some y) is at = tt
by_result x xs k None is at = λ part. put_field_absent part part k x xs is (sym at)

pub returns-in-Fields-clause-there : goal.returns-in-Fields-clause-there
returns-in-Fields-clause-there c = λ other. field_found other other c.args.place c.args.value.now c.in-Fields.fields (option_copied c.get.result) c.in-Fields.is c.get.ensures.value

pub returns-in-Fields-clause-absent : goal.returns-in-Fields-clause-absent
returns-in-Fields-clause-absent c = by_result c.args.value.now c.in-Fields.fields c.args.place c.get.result c.in-Fields.is c.get.ensures.value
