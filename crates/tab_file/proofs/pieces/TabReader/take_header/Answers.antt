use Rattle.std.proofs.Common.{◌≡◌, ◌++◌, ℕ, List, None, Some, sym, ap, subst, ◌∙◌, arith}
use Rattle.std.specs.Prelude.{MatchResult, ◌≢◌}
use Rattle.tab_file.specs.Steps.{out_of_memory}
use Rattle.tab_file.specs.Front.{whole_tables}
use Rattle.tab_file.specs.Stands.{GoesOn, HasFailed, Feeds}
use Rattle.tab_file.proofs.Headers.{Told, header_goes_on, header_has_failed, header_opens}
use Rattle.tab_file.proofs.pieces.TabReader.take_header.Goals as goal

pub returns-in-Err-clause-feeds : goal.returns-in-Err-clause-feeds
returns-in-Err-clause-feeds c shape fed same s =
    let r = c.args.self.now in
    let p = c.profile_so_far-self.result in
    let k = c.extend_from_slice.new.self.items in
    let here = subst (λ b. GoesOn r.profile b r.header.items r.shape fed) c.requires.none (subst (λ sh. GoesOn r.profile r.body r.header.items sh fed) (sym same) s) in
    let told : Told p c.deref-2.result.now r.shape.form = subst (λ (xs : List ℕ). Told p xs r.shape.form) (c.deref.ensures.value ∙ sym c.deref-2.ensures.value) c.profile_so_far-self.ensures in
    let done = header_goes_on r.profile p r.header.items r.shape fed c.args.piece.now k c.deref-2.result.now c.args.tables.now c.in-Err.e here (λ i. omega (arith, c.type_inv.piece i)) c.in_ok-extend_from_slice.ensures.items c.deref-2.ensures.value
    told c.in-Err.ensures.fail c.if-is_short.ensures c.requires.empty in
    subst (λ sh. GoesOn p r.body k sh (fed ++ c.args.piece.now) × (whole_tables fed sh ++ c.args.tables.now ≡ whole_tables (fed ++ c.args.piece.now) sh)) same
    (subst (λ b. GoesOn p b k r.shape (fed ++ c.args.piece.now) × (whole_tables fed r.shape ++ c.args.tables.now ≡ whole_tables (fed ++ c.args.piece.now) r.shape)) (sym c.requires.none) done)

pub returns-in-Err-2-clause-feeds : goal.returns-in-Err-2-clause-feeds
returns-in-Err-2-clause-feeds c shape fed same s other =
    let r = c.args.self.now in
    let p = c.profile_so_far-self.result in
    let k = c.extend_from_slice.new.self.items in
    let here = subst (λ b. GoesOn r.profile b r.header.items r.shape fed) c.requires.none (subst (λ sh. GoesOn r.profile r.body r.header.items sh fed) (sym same) s) in
    let told : Told p c.deref-2.result.now r.shape.form = subst (λ (xs : List ℕ). Told p xs r.shape.form) (c.deref.ensures.value ∙ sym c.deref-2.ensures.value) c.profile_so_far-self.ensures in
    let done = header_has_failed r.profile p r.header.items r.shape fed c.args.piece.now k c.deref-2.result.now c.in-Err.e here c.in_ok-extend_from_slice.ensures.items c.deref-2.ensures.value
    told c.in-Err.ensures.fail c.if-is_short.ensures other in
    subst (λ sh. HasFailed p r.body sh (fed ++ c.args.piece.now) c.in-Err.e) same (subst (λ b. HasFailed p b r.shape (fed ++ c.args.piece.now) c.in-Err.e) (sym c.requires.none) done)

pub returns-in-Ok-clause-feeds : goal.returns-in-Ok-clause-feeds
returns-in-Ok-clause-feeds c shape fed same s =
    let r = c.args.self.now in
    let p = c.profile_so_far-self.result in
    let n = c.take_body.new.self in
    let k = c.extend_from_slice.new.self.items in
    let h = c.in-Ok.header in
    let here = subst (λ b. GoesOn r.profile b r.header.items r.shape fed) c.requires.none (subst (λ sh. GoesOn r.profile r.body r.header.items sh fed) (sym same) s) in
    let told : Told p c.deref-2.result.now r.shape.form = subst (λ (xs : List ℕ). Told p xs r.shape.form) (c.deref.ensures.value ∙ sym c.deref-2.ensures.value) c.profile_so_far-self.ensures in
    let done = header_opens r.profile p n.body r.header.items n.header.items r.shape fed c.args.piece.now k c.deref-2.result.now h.airs.items h.counts.items h.end c.take_body.new.tables c.take_body.result here (λ i. omega (arith, c.type_inv.piece i))
    c.in_ok-extend_from_slice.ensures.items c.deref-2.ensures.value told c.in-Ok.ensures.airs c.in-Ok.ensures.counts c.in-Ok.ensures.end c.in-Ok.ensures.pass c.take_body.ensures.opens in
    subst (λ sh. MatchResult c.take_body.result (λ _. GoesOn n.profile n.body n.header.items sh (fed ++ c.args.piece.now) × (whole_tables fed sh ++ c.take_body.new.tables ≡ whole_tables (fed ++ c.args.piece.now) sh)) (λ e. e ≢ out_of_memory → HasFailed n.profile n.body sh (fed ++ c.args.piece.now) e)) same
    (subst (λ q. MatchResult c.take_body.result (λ _. GoesOn q n.body n.header.items r.shape (fed ++ c.args.piece.now) × (whole_tables fed r.shape ++ c.take_body.new.tables ≡ whole_tables (fed ++ c.args.piece.now) r.shape)) (λ e. e ≢ out_of_memory → HasFailed q n.body r.shape (fed ++ c.args.piece.now) e)) (sym c.take_body.ensures.profile) done)
