use Rattle.std.proofs.Common.{◌≡◌, ◌∙◌, ◌||◌, IfOk, ap, sym, subst, arith}
use Rattle.std.proofs.lemmas.Result.{IfOk-weaker}
use Rattle.pil_ast.specs.Tree.{term, namespaces}
use Rattle.pil_ast.specs.Term.{opp, ◌⊕◌, ◌⊖◌, ◌⊗◌}
use Rattle.pil_ast.specs.Value.{later}
use Rattle.pil_program.specs.Program.{IsOver, IsReady, Places}
use Rattle.pil_program.proofs.Exprs.{term_number, term_column, term_public, term_neg, term_add, term_sub, term_mul}
use Rattle.pil_program.proofs.Steps.{places-number, places-column, places-neg, places-sum, places-difference, places-product, ready-kept}
use Rattle.pil_ast.specs.declared.tree.Expr as q
use Rattle.pil_program.specs.declared.nodes.Node.TheVariants.{Column}
use Rattle.pil_program.specs.Program.{IsPlaced}
use Rattle.pil_program.proofs.compiling.+place.Goals as goal
use Rattle.pil_program.proofs.compiling.+place.Goals.{then-ahead, else-ahead}

pub returns-after-ahead : goal.returns-after-ahead
returns-after-ahead t c =
    let ns = namespaces c.args.pil.now in
    let e = term_column c.args.expr.now c.in-Column.space c.in-Column.column c.in-Column.next c.in-Column.is in
    let over = subst (IsOver ns c.args.space c.args.ahead) e c.requires.over in
    let m : c.if-ahead.place ≡ (c.args.ahead || c.in-Column.next) =
    elim c.if-ahead.branch [
      | then-ahead w ↦ w.place-is ∙ w.if-ahead.true ∙ ap (λ b. b || c.in-Column.next) (sym w.if-ahead.true)
      | else-ahead w ↦ w.place-is ∙ ap (λ b. b || c.in-Column.next) (sym w.if-ahead.false)
    ] in
    subst (λ e. IfOk c.place-in-Column.result (λ k. Places ns c.args.space c.args.nodes.now c.place-in-Column.new.self (later 0 c.args.ahead) e k)) (sym e)
    (IfOk-weaker c.place-in-Column.result _ _ (λ k h. places-column ns c.args.space c.args.nodes.now c.place-in-Column.new.self c.args.ahead c.in-Column.next c.in-Column.space c.in-Column.column k over.0 over.1 over.2
    (subst (λ b. IsPlaced c.args.nodes.now c.place-in-Column.new.self (Column c.in-Column.column b) k) m h)) c.place-in-Column.ensures.placed)

pub returns-in-Number : goal.returns-in-Number
returns-in-Number t c =
    let ns = namespaces c.args.pil.now in
    subst (λ e. IfOk c.place.result (λ k. Places ns c.args.space c.args.nodes.now c.place.new.self (later 0 c.args.ahead) e k)) (sym (term_number c.args.expr.now c.in-Number.n c.in-Number.is))
    (IfOk-weaker c.place.result _ _ (λ k h. places-number ns c.args.space c.args.nodes.now c.place.new.self (later 0 c.args.ahead) c.in-Number.n k h) c.place.ensures.placed)

pub returns-in-Public : goal.returns-in-Public
returns-in-Public t c = absurd (subst (IsOver (namespaces c.args.pil.now) c.args.space c.args.ahead) (term_public c.args.expr.now c.in-Public.field-0 c.in-Public.is) c.requires.over)

pub returns-in_ok-a-in-Neg : goal.returns-in_ok-a-in-Neg
returns-in_ok-a-in-Neg t c =
    let ns = namespaces c.args.pil.now in
    let e : term c.args.expr.now ≡ opp (term c.get.result.now) = term_neg c.args.expr.now c.in-Neg.a c.in-Neg.is ∙ ap (λ a. opp (term a)) (sym c.get.ensures) in
    subst (λ e. IfOk c.place-in-Neg-2.result (λ k. Places ns c.args.space c.args.nodes.now c.place-in-Neg-2.new.self (later 0 c.args.ahead) e k)) (sym e)
    (IfOk-weaker c.place-in-Neg-2.result _ _ (λ k h. places-neg ns c.args.space c.args.nodes.now c.place-in-Neg.new.nodes c.place-in-Neg-2.new.self (later 0 c.args.ahead) (term c.get.result.now) c.in_ok-a-in-Neg.a k c.in_ok-a-in-Neg.ensures h) c.place-in-Neg-2.ensures.placed)

pub place-requires-in-Add-2 : goal.place-requires-in-Add-2
place-requires-in-Add-2 t c =
    let ns = namespaces c.args.pil.now in
    let e : term c.args.expr.now ≡ term c.in-Add.a ⊕ term c.get-in-Add-2.result.now = term_add c.args.expr.now c.in-Add.a c.in-Add.b c.in-Add.is ∙ ap (λ b. term c.in-Add.a ⊕ term b) (sym c.get-in-Add-2.ensures) in
    let ready = subst (IsReady ns c.args.space c.args.nodes.now c.args.ahead c.args.here.now c.args.next.now) e c.requires.ready in (
      grind (arith, q.the_lemmas, c.decreases, c.in-Add.is, c.get-in-Add-2.ensures),
      (
        (subst (IsOver ns c.args.space c.args.ahead) e c.requires.over).1,
        ready-kept ns c.args.space c.args.nodes.now c.place-in-Add.new.nodes c.args.ahead c.args.here.now c.args.next.now (term c.get-in-Add-2.result.now) c.in_ok-a-in-Add.ensures.keeps ready.1,
      ),
    )

pub returns-in_ok-b-in-Add : goal.returns-in_ok-b-in-Add
returns-in_ok-b-in-Add t c =
    let ns = namespaces c.args.pil.now in
    let e : term c.args.expr.now ≡ term c.get-in-Add.result.now ⊕ term c.get-in-Add-2.result.now =
    term_add c.args.expr.now c.in-Add.a c.in-Add.b c.in-Add.is ∙ ap (λ a. term a ⊕ term c.in-Add.b) (sym c.get-in-Add.ensures) ∙ ap (λ b. term c.get-in-Add.result.now ⊕ term b) (sym c.get-in-Add-2.ensures) in
    subst (λ e. IfOk c.place-in-Add-3.result (λ k. Places ns c.args.space c.args.nodes.now c.place-in-Add-3.new.self (later 0 c.args.ahead) e k)) (sym e)
    (IfOk-weaker c.place-in-Add-3.result _ _ (λ k h. places-sum ns c.args.space c.args.nodes.now c.place-in-Add.new.nodes c.place-in-Add-2.new.nodes c.place-in-Add-3.new.self (later 0 c.args.ahead) (term c.get-in-Add.result.now) (term c.get-in-Add-2.result.now)
    c.in_ok-a-in-Add.a c.in_ok-b-in-Add.b k c.in_ok-a-in-Add.ensures c.in_ok-b-in-Add.ensures h) c.place-in-Add-3.ensures.placed)

pub place-requires-in-Sub-2 : goal.place-requires-in-Sub-2
place-requires-in-Sub-2 t c =
    let ns = namespaces c.args.pil.now in
    let e : term c.args.expr.now ≡ term c.in-Sub.a ⊖ term c.get-in-Sub-2.result.now = term_sub c.args.expr.now c.in-Sub.a c.in-Sub.b c.in-Sub.is ∙ ap (λ b. term c.in-Sub.a ⊖ term b) (sym c.get-in-Sub-2.ensures) in
    let ready = subst (IsReady ns c.args.space c.args.nodes.now c.args.ahead c.args.here.now c.args.next.now) e c.requires.ready in (
      grind (arith, q.the_lemmas, c.decreases, c.in-Sub.is, c.get-in-Sub-2.ensures),
      (
        (subst (IsOver ns c.args.space c.args.ahead) e c.requires.over).1,
        ready-kept ns c.args.space c.args.nodes.now c.place-in-Sub.new.nodes c.args.ahead c.args.here.now c.args.next.now (term c.get-in-Sub-2.result.now) c.in_ok-a-in-Sub.ensures.keeps ready.1,
      ),
    )

pub returns-in_ok-b-in-Sub : goal.returns-in_ok-b-in-Sub
returns-in_ok-b-in-Sub t c =
    let ns = namespaces c.args.pil.now in
    let e : term c.args.expr.now ≡ term c.get-in-Sub.result.now ⊖ term c.get-in-Sub-2.result.now =
    term_sub c.args.expr.now c.in-Sub.a c.in-Sub.b c.in-Sub.is ∙ ap (λ a. term a ⊖ term c.in-Sub.b) (sym c.get-in-Sub.ensures) ∙ ap (λ b. term c.get-in-Sub.result.now ⊖ term b) (sym c.get-in-Sub-2.ensures) in
    subst (λ e. IfOk c.place-in-Sub-3.result (λ k. Places ns c.args.space c.args.nodes.now c.place-in-Sub-3.new.self (later 0 c.args.ahead) e k)) (sym e)
    (IfOk-weaker c.place-in-Sub-3.result _ _ (λ k h. places-difference ns c.args.space c.args.nodes.now c.place-in-Sub.new.nodes c.place-in-Sub-2.new.nodes c.place-in-Sub-3.new.self (later 0 c.args.ahead) (term c.get-in-Sub.result.now) (term c.get-in-Sub-2.result.now)
    c.in_ok-a-in-Sub.a c.in_ok-b-in-Sub.b k c.in_ok-a-in-Sub.ensures c.in_ok-b-in-Sub.ensures h) c.place-in-Sub-3.ensures.placed)

pub place-requires-in-Mul-2 : goal.place-requires-in-Mul-2
place-requires-in-Mul-2 t c =
    let ns = namespaces c.args.pil.now in
    let e : term c.args.expr.now ≡ term c.in-Mul.a ⊗ term c.get-in-Mul-2.result.now = term_mul c.args.expr.now c.in-Mul.a c.in-Mul.b c.in-Mul.is ∙ ap (λ b. term c.in-Mul.a ⊗ term b) (sym c.get-in-Mul-2.ensures) in
    let ready = subst (IsReady ns c.args.space c.args.nodes.now c.args.ahead c.args.here.now c.args.next.now) e c.requires.ready in (
      grind (arith, q.the_lemmas, c.decreases, c.in-Mul.is, c.get-in-Mul-2.ensures),
      (
        (subst (IsOver ns c.args.space c.args.ahead) e c.requires.over).1,
        ready-kept ns c.args.space c.args.nodes.now c.place-in-Mul.new.nodes c.args.ahead c.args.here.now c.args.next.now (term c.get-in-Mul-2.result.now) c.in_ok-a-in-Mul.ensures.keeps ready.1,
      ),
    )

pub returns-in_ok-b-in-Mul : goal.returns-in_ok-b-in-Mul
returns-in_ok-b-in-Mul t c =
    let ns = namespaces c.args.pil.now in
    let e : term c.args.expr.now ≡ term c.get-in-Mul.result.now ⊗ term c.get-in-Mul-2.result.now =
    term_mul c.args.expr.now c.in-Mul.a c.in-Mul.b c.in-Mul.is ∙ ap (λ a. term a ⊗ term c.in-Mul.b) (sym c.get-in-Mul.ensures) ∙ ap (λ b. term c.get-in-Mul.result.now ⊗ term b) (sym c.get-in-Mul-2.ensures) in
    subst (λ e. IfOk c.place-in-Mul-3.result (λ k. Places ns c.args.space c.args.nodes.now c.place-in-Mul-3.new.self (later 0 c.args.ahead) e k)) (sym e)
    (IfOk-weaker c.place-in-Mul-3.result _ _ (λ k h. places-product ns c.args.space c.args.nodes.now c.place-in-Mul.new.nodes c.place-in-Mul-2.new.nodes c.place-in-Mul-3.new.self (later 0 c.args.ahead) (term c.get-in-Mul.result.now) (term c.get-in-Mul-2.result.now)
    c.in_ok-a-in-Mul.a c.in_ok-b-in-Mul.b k c.in_ok-a-in-Mul.ensures c.in_ok-b-in-Mul.ensures h) c.place-in-Mul-3.ensures.placed)
