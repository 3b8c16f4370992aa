use Rattle.spx_words.proofs.Forms.{each_form, each_request}
use Rattle.spx_words.proofs.laws.each_form_asks.Goals as goal

pub returns : goal.returns
returns c = record { form = each_form; within = each_request }
