-- Texts in pieces.
use Rattle.std.proofs.Common.{append_assoc}

pub ruleset texts = (append_assoc)
