use Rattle.std.proofs.Common.{◌≡◌, ◌+◌, ◌<◌, length, drop, ap, ◌∙◌, sym, arith}
use Rattle.pil_token.specs.declared.token.Placed.{Placed}
use Rattle.pil_token.specs.declared.token.Piece.TheVariants.{Blank, Whole, Broken}
use Rattle.pil_token.specs.Tokens.{lexed_from, begins, after}
use Rattle.pil_token.proofs.Passing.{after_led, blank_step, whole_step, broken_step, piece_at, refuses, some_left}
use Rattle.pil_token.proofs.Pieces.{IsPieceOf}
use Rattle.pil_token.proofs.Valid.{read_valid}
use Rattle.pil_token.proofs.reading.tokens.Goals as goal

pub split_at-requires : goal.split_at-requires
split_at-requires c =
    let us = c.pieces.rest.now in
    let e : begins us ≡ Blank c.in-Blank.size = sym c.in_ok-size.ensures ∙ c.in-Blank.is in
    (piece_at us _ (some_left us c.pieces-test.ensures) e).fits

pub split_at-requires-in-Whole : goal.split_at-requires-in-Whole
split_at-requires-in-Whole c =
    let us = c.pieces.rest.now in
    let e : begins us ≡ Whole c.in-Whole.token c.in-Whole.size = sym c.in_ok-size.ensures ∙ c.in-Whole.is in
    (piece_at us _ (some_left us c.pieces-test.ensures) e).fits

pub pieces-smaller-in-Blank : goal.pieces-smaller-in-Blank
pieces-smaller-in-Blank c =
    let us = c.pieces.rest.now in
    let e : begins us ≡ Blank c.in-Blank.size = sym c.in_ok-size.ensures ∙ c.in-Blank.is in
    let h : IsPieceOf us (Blank c.in-Blank.size) = piece_at us _ (some_left us c.pieces-test.ensures) e in
    omega (arith, c.split_at.ensures.back_len, h.some, h.fits)

pub pieces-smaller : goal.pieces-smaller
pieces-smaller c =
    let us = c.pieces.rest.now in
    let e : begins us ≡ Whole c.in-Whole.token c.in-Whole.size = sym c.in_ok-size.ensures ∙ c.in-Whole.is in
    let h : IsPieceOf us (Whole c.in-Whole.token c.in-Whole.size) = piece_at us _ (some_left us c.pieces-test.ensures) e in
    omega (arith, c.split_at-in-Whole.ensures.back_len, h.some, h.fits)

pub pieces-preserved-in-Blank : goal.pieces-preserved-in-Blank
pieces-preserved-in-Blank c =
    let us = c.pieces.rest.now in
    let l : 0 < length us = some_left us c.pieces-test.ensures in
    let e : begins us ≡ Blank c.in-Blank.size = sym c.in_ok-size.ensures ∙ c.in-Blank.is in
    record {
      same = rw c.split_at.ensures.back (c.pieces.invariant.same ∙ ap (after c.pieces.found.items) (blank_step us c.pieces.at c.in-Blank.size l e));
      room = omega (arith, c.split_at.ensures.back_len, (piece_at us _ l e).fits);
    }

pub pieces-preserved : goal.pieces-preserved
pieces-preserved c =
    let us = c.pieces.rest.now in
    let l : 0 < length us = some_left us c.pieces-test.ensures in
    let e : begins us ≡ Whole c.in-Whole.token c.in-Whole.size = sym c.in_ok-size.ensures ∙ c.in-Whole.is in
    let p : Placed = record { token = c.in-Whole.token; at = c.pieces.at } in
    record {
      same = rw (c.split_at-in-Whole.ensures.back, c.in_ok-push-in-Whole.ensures.items) (c.pieces.invariant.same ∙ (ap (after c.pieces.found.items) (whole_step us c.pieces.at c.in-Whole.size c.in-Whole.token l e) ∙ after_led c.pieces.found.items p (lexed_from 0 (c.pieces.at + c.in-Whole.size) (drop c.in-Whole.size us))));
      room = omega (arith, c.split_at-in-Whole.ensures.back_len, (piece_at us _ l e).fits);
    }

pub returns-in-Broken-clause-refused : goal.returns-in-Broken-clause-refused
returns-in-Broken-clause-refused c =
    let us = c.pieces.rest.now in
    let l : 0 < length us = some_left us c.pieces-test.ensures in
    let e : begins us ≡ Broken c.in-Broken.kind = sym c.in_ok-size.ensures ∙ c.in-Broken.is in
    refuses _ c.in-Broken.kind c.pieces.at (λ k. (piece_at us _ l e).known (ap Broken k)) (c.pieces.invariant.same ∙ ap (after c.pieces.found.items) (broken_step us c.pieces.at c.in-Broken.kind l e))

pub returns-clause-valid : goal.returns-clause-valid
returns-clause-valid c = read_valid c.args.text.now c.pieces.rest.now c.pieces.at c.pieces.found.items c.pieces.invariant.same c.pieces-test.ensures
