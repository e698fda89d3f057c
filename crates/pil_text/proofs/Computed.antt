-- What is computed of a text is what it reads as.
use Rattle.std.proofs.Common.{ℕ, ◌≡◌, List, [], ◌∷◌, Bool, true, false, cond, Result, Ok, Err, Some, None, refl, sym, arith}
use Rattle.pil_token.specs.declared.token.Placed.{Placed}
use Rattle.pil_token.specs.declared.token.LexErr.{LexErr}
use Rattle.pil_token.specs.Tokens.{lexed}
use Rattle.pil_syntax.specs.declared.failure.Fault.{Fault}
use Rattle.pil_syntax.specs.Tree.{Sentence}
use Rattle.pil_syntax.specs.Grammar.{limits}
use Rattle.pil_syntax.specs.State.{between}
use Rattle.pil_syntax.specs.Machine.{run}
use Rattle.pil_syntax.specs.Refusal as grammar
use Rattle.pil_ast.specs.Term.{Line, Namespace, space_at}
use Rattle.pil_ast.specs.Sound.{IsAcyclic}
use Rattle.pil_cycles.specs.Cycles.{IsOnCycle}
use Rattle.pil_names.specs.Outline.{Outline, outline_of}
use Rattle.pil_names.specs.Wrongs.{repeated, unknown, bad_rows, mixed, wrong_widths}
use Rattle.pil_meaning.specs.Meaning.{meaning}
use Rattle.pil_meaning.specs.Marks.{double}
use Rattle.pil_text.specs.Refusal.{IsClear, Means}
use Rattle.pil_text.specs.Text.{Reads}
use Rattle.pil_text.specs.Computed.{is_nil, is_right, of_statements, of_tokens, computed}
use Rattle.pil_text.proofs.Ascending.{both, each_acyclic}
use Rattle.pil_text.proofs.Order.{right}

nil : (ns : List ℕ) → is_nil ns ≡ true → ns ≡ []
nil [] h = refl
nil (n ∷ ns) h = grind arith

some-same : (a b : List Namespace) → Some a ≡ Some b → a ≡ b
some-same a b h = cc

none-some : (a : List Namespace) (P : Type 0) → None ≡ Some a → P
none-some a P h = absurd (grind arith)

module _ (files : (ts : List Placed) (ss : List Sentence) → run limits [] between ts ≡ Ok ss → grammar.Reads limits ts ss) (no_cycle : (items : List Line) → IsAcyclic items → (k : ℕ) → ¬ IsOnCycle items k) where
  clear : (o : Outline) → is_right o ≡ true → IsClear 9 o
  clear o h =
      let a = both _ _ h in
      let b = both _ _ a.1 in
      let c = both _ _ b.1 in
      let d = both _ _ c.1 in
      let e = both _ _ d.1 in
      let f = both _ _ e.1 in
      record {
        repeated = λ l. nil (repeated o) a.0;
        unknown = λ l. nil (unknown o) b.0;
        rows = λ l. nil (bad_rows o) c.0;
        mixed = λ l. nil (mixed o) d.0;
        widths = λ l. nil (wrong_widths o) e.0;
        cyclic = λ l at w. no_cycle (space_at (meaning o) w.0).items (each_acyclic (meaning o) w.0 f.0) w.1.item w.1.cycle;
        double = λ l. nil (double o) f.1;
      }

  means : (o : Outline) (ns : List Namespace) (b : Bool) → is_right o ≡ b → cond b (Some (meaning o)) None ≡ Some ns → Means o ns
  means o ns true e h = record { right = right o (clear o e); meant = sym (some-same _ _ h) }
  means o ns false e h = none-some ns (Means o ns) h

  of_spelled : (text : List ℕ) (ts : List Placed) (ns : List Namespace) (r : Result (List Sentence) Fault) → lexed text ≡ Ok ts → run limits [] between ts ≡ r → of_statements r ≡ Some ns → Reads text ns
  of_spelled text ts ns (Ok ss) l e h = record { tokens = ts; statements = ss; lexed = l; parsed = files ts ss e; means = means (outline_of ss) ns (is_right (outline_of ss)) refl h }
  of_spelled text ts ns (Err f) l e h = none-some ns (Reads text ns) h

  of_text : (text : List ℕ) (ns : List Namespace) (r : Result (List Placed) LexErr) → lexed text ≡ r → of_tokens r ≡ Some ns → Reads text ns
  of_text text ns (Ok ts) e h = of_spelled text ts ns (run limits [] between ts) e refl h
  of_text text ns (Err f) e h = none-some ns (Reads text ns) h

  pub reads : (text : List ℕ) (ns : List Namespace) → computed text ≡ Some ns → Reads text ns
  reads text ns h = of_text text ns (lexed text) refl h
