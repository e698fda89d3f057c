use Rattle.std.proofs.Common.{◌≡◌, ◌≤◌, ◌+◌, ◌*◌, take, get_or, arith}
use Rattle.std.specs.Char.{digit_value}
use Rattle.std.specs.Str.Parse.{digits_value}
use Rattle.std.proofs.lemmas.Int.Digits.{digits_value_more}
use Rattle.std.proofs.lemmas.Str.Parse.{digits_value-take-le}
use Rattle.pil_token.proofs.Fronts.{none_from}
use Rattle.pil_token.proofs.piece.value.Goals as goal

pub returns-then-more : goal.returns-then-more
returns-then-more c =
    let i = c.loop-digit.digit-index in
    let ds = c.args.digits.now in
    let more : digits_value c.args.radix (take (i + 1) ds) ≡ digits_value c.args.radix (take i ds) * c.args.radix + digit_value (get_or ds i 0) = digits_value_more c.args.radix ds i (omega arith) in
    let most : digits_value c.args.radix (take (i + 1) ds) ≤ digits_value c.args.radix ds = digits_value-take-le c.args.radix ds (i + 1) c.requires in
    let reached : 18446744069414584321 ≤ digits_value c.args.radix (take (i + 1) ds) = rw (more, c.loop-digit.invariant.so_far, ← c.digit_value.ensures.value) c.if-more.true in
    none_from _ _ (omega arith)

pub loop-digit-preserved : goal.loop-digit-preserved
loop-digit-preserved c =
    let i = c.loop-digit.digit-index in
    let ds = c.args.digits.now in
    let more : digits_value c.args.radix (take (i + 1) ds) ≡ digits_value c.args.radix (take i ds) * c.args.radix + digit_value (get_or ds i 0) = digits_value_more c.args.radix ds i (omega arith) in
    record {
      so_far = rw (more, c.loop-digit.invariant.so_far, ← c.digit_value.ensures.value);
      small = c.if-more.false;
    }
