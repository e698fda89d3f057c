use Rattle.std.proofs.Common.{◌≡◌, ◌+◌, length}
use Rattle.pil_token.specs.Tokens.{lexed_from, after}
use Rattle.pil_token.proofs.reading.tokens.Given as goal

abbrev pub invariant-pieces : goal.invariant-pieces
invariant-pieces l = record {
  same : lexed_from 0 0 l.text ≡ after l.found.items (lexed_from 0 l.at l.rest);
  room : l.at + length l.rest ≡ length l.text;
}

abbrev pub decreases-pieces : goal.decreases-pieces
decreases-pieces l = length l.rest
