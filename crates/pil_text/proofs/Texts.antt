-- The same of texts.
use Rattle.std.proofs.Common.{ℕ, ◌≡◌, ◌⊎◌, inl, inr, List, length, Result, Ok, Err, rules, refl, sym, ap, ◌∙◌, subst}
use Rattle.pil_token.specs.declared.token.Placed.{Placed}
use Rattle.pil_token.specs.declared.token.LexErr.{LexErr}
use Rattle.pil_token.specs.Tokens.{lexed}
use Rattle.pil_syntax.specs.declared.tree.SyntaxErr.{SyntaxErr}
use Rattle.pil_syntax.specs.Tree.{Sentence}
use Rattle.pil_syntax.specs.Grammar.{limits}
use Rattle.pil_syntax.specs.Refusal as grammar
use Rattle.pil_ast.specs.Term.{Line, Namespace}
use Rattle.pil_cycles.specs.Cycles.{IsOnCycle}
use Rattle.pil_names.specs.Outline.{outline_of}
use Rattle.pil_names.specs.Least.{IsLeast}
use Rattle.pil_meaning.specs.Meaning.{meaning}
use Rattle.pil_text.specs.declared.error.PilErr.{PilErr}
use Rattle.pil_text.specs.Refusal.{IsClear, Means, Breaks}
use Rattle.pil_text.specs.Text.{Reads, Fails, FailsAsFile, FailsAsNames, IsDecided, kind_of_lex, kind_of_syntax}
use Rattle.pil_text.proofs.Order.{right}
use Rattle.pil_text.proofs.Decided.{broken_or_clear, one_break, not_means}

abbrev ok_or : {A E : Type 0} → A → Result A E → A
ok_or d (Ok x) = x
ok_or d (Err x) = d

abbrev err_or : {A E : Type 0} → E → Result A E → E
err_or d (Ok x) = d
err_or d (Err x) = x

abbrev Lexed : Type 0
Lexed = Result (List Placed) LexErr

abbrev got : List Placed → Lexed
got ts = Ok ts

abbrev failed : LexErr → Lexed
failed f = Err f

same_list : (a b : List Placed) → got a ≡ got b → a ≡ b
same_list a b e = ap (ok_or a) e

same_fault : (a b : LexErr) → failed a ≡ failed b → a ≡ b
same_fault a b e = ap (err_or a) e

not_both_results : {A E : Type 0} (r : Result A E) (a : A) (e : E) → r ≡ Ok a → r ≡ Err e → ⊥
not_both_results r a e p q = let no : Ok a ≡ Err e = sym p ∙ q in absurd (grind rules)

same_error : (e f : PilErr) → e.kind ≡ f.kind → e.at ≡ f.at → e ≡ f
same_error e f kinds places = ap (λ k. record { kind = k; at = e.at }) kinds ∙ ap (λ n. record { kind = f.kind; at = n }) places

same_tokens : (text : List ℕ) (a b : List Placed) → lexed text ≡ Ok a → lexed text ≡ Ok b → a ≡ b
same_tokens text a b p q = same_list a b (sym p ∙ q)

module _ (files : (ts : List Placed) (end : ℕ) → grammar.IsDecided limits ts end) (is_least : IsLeast) (each : (items : List Line) (k : ℕ) → IsOnCycle items k ⊎ ¬ IsOnCycle items k) where
  some_statements : (text : List ℕ) (ts : List Placed) (ss : List Sentence) → lexed text ≡ Ok ts → grammar.Reads limits ts ss → ((ns : List Namespace) × Reads text ns) ⊎ ((e : PilErr) × Fails text e)
  some_statements text ts ss e r = by (broken_or_clear each (outline_of ss) is_least)
    where
      by : IsClear 9 (outline_of ss) ⊎ ((f : PilErr) × Breaks (outline_of ss) f) → ((ns : List Namespace) × Reads text ns) ⊎ ((f : PilErr) × Fails text f)
      by (inl clear) = inl (meaning (outline_of ss), record { tokens = ts; statements = ss; lexed = e; parsed = r; means = record { right = right (outline_of ss) clear; meant = refl } })
      by (inr b) = inr (b.0, inr (inr (record { tokens = ts; statements = ss; lexed = e; parsed = r; breaks = b.1 })))

  some_tokens : (text : List ℕ) (ts : List Placed) → lexed text ≡ Ok ts → ((ns : List Namespace) × Reads text ns) ⊎ ((e : PilErr) × Fails text e)
  some_tokens text ts e = by (files ts (length text)).some
    where
      by : ((ss : List Sentence) × grammar.Reads limits ts ss) ⊎ ((f : SyntaxErr) × grammar.Refuses limits ts (length text) f) → ((ns : List Namespace) × Reads text ns) ⊎ ((f : PilErr) × Fails text f)
      by (inl s) = some_statements text ts s.0 e s.1
      by (inr f) = inr (record { kind = kind_of_syntax f.0.kind; at = f.0.at }, inr (inl (record { tokens = ts; fault = f.0; lexed = e; parsed = f.1; kind = refl; at = refl })))

  some_text : (text : List ℕ) (r : Result (List Placed) LexErr) → lexed text ≡ r → ((ns : List Namespace) × Reads text ns) ⊎ ((e : PilErr) × Fails text e)
  some_text text (Ok ts) e = some_tokens text ts e
  some_text text (Err f) e = inr (record { kind = kind_of_lex f.kind; at = f.at }, inl (record { fault = f; lexed = e; kind = refl; at = refl }))

  same_statements : (text : List ℕ) (ts us : List Placed) (ss qs : List Sentence) → lexed text ≡ Ok ts → lexed text ≡ Ok us → grammar.Reads limits ts ss → grammar.Reads limits us qs → ss ≡ qs
  same_statements text ts us ss qs p q r s = (files us 0).one_file ss qs (subst (λ xs. grammar.Reads limits xs ss) (same_tokens text ts us p q) r) s

  one_reading : (text : List ℕ) (a b : List Namespace) → Reads text a → Reads text b → a ≡ b
  one_reading text a b r q =
      let same = same_statements text r.tokens q.tokens r.statements q.statements r.lexed q.lexed r.parsed q.parsed in
      r.means.meant ∙ ap (λ ss. meaning (outline_of ss)) same ∙ sym q.means.meant

  file_against_names : (text : List ℕ) (e f : PilErr) → FailsAsFile text e → FailsAsNames text f → ⊥
  file_against_names text e f p q = (files q.tokens (length text)).not_both q.statements p.fault q.parsed (subst (λ ts. grammar.Refuses limits ts (length text) p.fault) (same_tokens text p.tokens q.tokens p.lexed q.lexed) p.parsed)

  one_refusal : (text : List ℕ) (e f : PilErr) → Fails text e → Fails text f → e ≡ f
  one_refusal text e f (inl p) (inl q) =
      let same = same_fault p.fault q.fault (sym p.lexed ∙ q.lexed) in
      same_error e f (p.kind ∙ ap (λ (x : LexErr). kind_of_lex x.kind) same ∙ sym q.kind) (p.at ∙ ap (λ (x : LexErr). x.at) same ∙ sym q.at)
  one_refusal text e f (inl p) (inr (inl q)) = absurd (not_both_results (lexed text) q.tokens p.fault q.lexed p.lexed)
  one_refusal text e f (inl p) (inr (inr q)) = absurd (not_both_results (lexed text) q.tokens p.fault q.lexed p.lexed)
  one_refusal text e f (inr (inl p)) (inl q) = absurd (not_both_results (lexed text) p.tokens q.fault p.lexed q.lexed)
  one_refusal text e f (inr (inr p)) (inl q) = absurd (not_both_results (lexed text) p.tokens q.fault p.lexed q.lexed)
  one_refusal text e f (inr (inl p)) (inr (inl q)) =
      let same = (files q.tokens (length text)).one_refusal p.fault q.fault (subst (λ ts. grammar.Refuses limits ts (length text) p.fault) (same_tokens text p.tokens q.tokens p.lexed q.lexed) p.parsed) q.parsed in
      same_error e f (p.kind ∙ ap (λ (x : SyntaxErr). kind_of_syntax x.kind) same ∙ sym q.kind) (p.at ∙ ap (λ (x : SyntaxErr). x.at) same ∙ sym q.at)
  one_refusal text e f (inr (inl p)) (inr (inr q)) = absurd (file_against_names text e f p q)
  one_refusal text e f (inr (inr p)) (inr (inl q)) = absurd (file_against_names text f e q p)
  one_refusal text e f (inr (inr p)) (inr (inr q)) =
      let same = same_statements text p.tokens q.tokens p.statements q.statements p.lexed q.lexed p.parsed q.parsed in
      one_break (outline_of q.statements) e f (subst (λ ss. Breaks (outline_of ss) e) same p.breaks) q.breaks

  not_both : (text : List ℕ) (ns : List Namespace) (e : PilErr) → Reads text ns → Fails text e → ⊥
  not_both text ns e r (inl q) = not_both_results (lexed text) r.tokens q.fault r.lexed q.lexed
  not_both text ns e r (inr (inl q)) = (files r.tokens (length text)).not_both r.statements q.fault r.parsed (subst (λ ts. grammar.Refuses limits ts (length text) q.fault) (same_tokens text q.tokens r.tokens q.lexed r.lexed) q.parsed)
  not_both text ns e r (inr (inr q)) =
      let same = same_statements text r.tokens q.tokens r.statements q.statements r.lexed q.lexed r.parsed q.parsed in
      not_means (outline_of q.statements) ns e (subst (λ ss. Means (outline_of ss) ns) same r.means) q.breaks

  pub decided : (text : List ℕ) → IsDecided text
  decided text = record { some = some_text text (lexed text) refl; one_reading = one_reading text; one_refusal = one_refusal text; not_both = not_both text }
