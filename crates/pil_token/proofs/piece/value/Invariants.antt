use Rattle.std.proofs.Common.{◌≡◌, ◌<◌, take}
use Rattle.std.specs.Str.Parse.{digits_value}
use Rattle.pil_token.proofs.piece.value.Given as goal

abbrev pub invariant-loop-digit : goal.invariant-loop-digit
invariant-loop-digit l = record {
  so_far : digits_value l.radix (take l.digit-index l.digits) ≡ l.number;
  small : l.number < 18446744069414584321;
}
