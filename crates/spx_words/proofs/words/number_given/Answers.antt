use Rattle.std.proofs.Common.{◌∙◌, ap}
use Rattle.std.specs.Prelude.{option_and_then}
use Rattle.std.specs.Str.Parse.{ExplainsUnsignedError, HasUnsignedDigitsIfOk, ParsesUnsigned}
use Rattle.clap.specs.Words.{found_of, one_text}
use Rattle.clap.proofs.WalkLemmas.{one_text-rows}
use Rattle.spx_words.specs.Requests.{number_of}
use Rattle.spx_words.proofs.Reading as reading
use Rattle.spx_words.proofs.words.number_given.Goals as goal

pub returns : goal.returns
returns c =
    let found = found_of c.args.given.now in
    let id = c.args.id.now in
    reading.number_given _ (λ bs r. ParsesUnsigned 64 10 bs r × ExplainsUnsignedError 10 bs r × HasUnsignedDigitsIfOk bs r)
    (one_text found id) c.get_one.result c.get_one.ensures.none c.get_one.ensures.value (λ u x g. g.0)
    ∙ ap (option_and_then number_of) (one_text-rows found id)
