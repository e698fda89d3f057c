-- Reading doesn't see the places that the syntax doesn't keep.
use Rattle.std.proofs.Common.{◌≡◌, ℕ, suc, List, [], ◌∷◌, ◌++◌, length, map, Bool, true, false, nat_lt, cond, Option, None, refl, ap, ◌∙◌}
use Rattle.pil_token.specs.declared.token.Word.TheVariants.{Constant, Namespace, Pol, Public}
use Rattle.pil_token.specs.declared.token.Mark.TheVariants.{OpenBrace, OpenBracket, Dot, Prime}
use Rattle.pil_token.specs.declared.token.Token.{Token}
use Rattle.pil_token.specs.declared.token.Token.TheVariants as tokens
use Rattle.pil_token.specs.declared.token.Placed.{Placed}
use Rattle.pil_syntax.specs.declared.tree.Ident.{Ident}
use Rattle.pil_syntax.specs.declared.tree.Number.{Number}
use Rattle.pil_syntax.specs.declared.tree.Reference.{Reference}
use Rattle.pil_syntax.specs.declared.tree.SyntaxErrKind.TheVariants.{Unexpected, TooDeep}
use Rattle.pil_syntax.specs.Tree.{Term, col, opp, ◌⊗◌, Filter, by_col, Sentence}
use Rattle.pil_syntax.specs.Spelling.{kept, seen}
use Rattle.pil_syntax.specs.Grammar.{Limits}
use Rattle.pil_syntax.specs.State.{Joint, Sum, Factor, leftmost, first, plain, times, minus, Holder, in_fact, in_filter, in_public, State, between, constant_word, constant_percent, constant_name, constant_equals, namespace_word, namespace_name, namespace_paren, namespace_percent, namespace_size, pol_word, columns_word, columns_name, columns_bracket, columns_length, columns_declared, intermediate_name, public_word, public_name, public_equals, public_column, public_paren, public_row, ref_name, ref_dot, ref_spaced, ref_bracket, ref_index, ref_indexed, want, have, fact_percent, fact_colon, list_wanted, list_brace, first_list, left_lists, right_lists, ending}
use Rattle.pil_syntax.specs.Machine.{Move, go, end, nest, count, no, have_move, settle_move, want_move, name_move, number_move, brace_move, referred_move, refer, indexed_move, spaced_move, named_move, size_move, pol_move, list_move, line_move, opened_move, between_move, wish, behind_name, behind_number, granted, has_namespace, Read, fault, onward, run}

-- the place that is kept
abbrev pub place_kept : Token → ℕ → ℕ
place_kept t i = (kept t i).at

blind_name : (f : Ident → State) (t : Token) (i : ℕ) → name_move f t (place_kept t i) ≡ name_move f t i
blind_name f (tokens.Name x) i = refl
blind_name f t i = refl

blind_number : (f : Number → State) (t : Token) (i : ℕ) → number_move f t (place_kept t i) ≡ number_move f t i
blind_number f (tokens.Number v) i = refl
blind_number f t i = refl

blind_have : (k : Sum) (e : Term) (n : ℕ) (t : Token) (i : ℕ) → have_move k e n t (place_kept t i) ≡ have_move k e n t i
blind_have k e n (tokens.Mark OpenBrace) i = refl
blind_have k e n t i = refl

blind_settle : (k : Factor) (e : Term) (n : ℕ) (t : Token) (i : ℕ) → settle_move k e n t (place_kept t i) ≡ settle_move k e n t i
blind_settle (plain k) e n t i = blind_have k e n t i
blind_settle (times a k) e n t i = blind_have k (a ⊗ e) n t i
blind_settle (minus k) e n t i = blind_settle k (opp e) n t i

blind_want : (k : Factor) (n : ℕ) (t : Token) (i : ℕ) → want_move k n t (place_kept t i) ≡ want_move k n t i
blind_want k n (tokens.Mark OpenBrace) i = refl
blind_want k n t i = refl

blind_brace : (j : Joint) (f : Filter) (t : Token) (i : ℕ) → brace_move j f t (place_kept t i) ≡ brace_move j f t i
blind_brace j f (tokens.Mark OpenBrace) i = refl
blind_brace j f t i = refl

blind_referred : (h : Holder) (r : Reference) (t : Token) (i : ℕ) → referred_move h r t (place_kept t i) ≡ referred_move h r t i
blind_referred (in_fact k n) r t i = blind_settle k (col r) n t i
blind_referred (in_filter j) r t i = blind_brace j (by_col r) t i
blind_referred (in_public x) r t i = refl

blind_indexed : (h : Holder) (s : Option Ident) (x : Ident) (n : Option Number) (t : Token) (i : ℕ) → indexed_move h s x n t (place_kept t i) ≡ indexed_move h s x n t i
blind_indexed h s x n (tokens.Mark Prime) i = refl
blind_indexed h s x n t i = blind_referred h (refer s x n None) t i

blind_spaced : (h : Holder) (s : Option Ident) (x : Ident) (t : Token) (i : ℕ) → spaced_move h s x t (place_kept t i) ≡ spaced_move h s x t i
blind_spaced h s x (tokens.Mark OpenBracket) i = refl
blind_spaced h s x t i = blind_indexed h s x None t i

blind_named : (h : Holder) (x : Ident) (t : Token) (i : ℕ) → named_move h x t (place_kept t i) ≡ named_move h x t i
blind_named h x (tokens.Mark Dot) i = refl
blind_named h x t i = blind_spaced h None x t i

blind_size : (x : Ident) (t : Token) (i : ℕ) → size_move x t (place_kept t i) ≡ size_move x t i
blind_size x (tokens.Mark OpenBrace) i = refl
blind_size x t i = refl

blind_pol : (t : Token) (i : ℕ) → pol_move t (place_kept t i) ≡ pol_move t i
blind_pol (tokens.Name x) i = refl
blind_pol (tokens.Word Constant) i = refl
blind_pol t i = refl

blind_list : (j : Joint) (t : Token) (i : ℕ) → list_move j t (place_kept t i) ≡ list_move j t i
blind_list j (tokens.Mark OpenBrace) i = refl
blind_list j t i = refl

blind_line : (t : Token) (i : ℕ) → line_move t (place_kept t i) ≡ line_move t i
blind_line (tokens.Word Pol) i = refl
blind_line (tokens.Word Public) i = refl
blind_line (tokens.Mark OpenBrace) i = refl
blind_line t i = blind_want (plain (first leftmost)) 0 t i

blind_opened : (b : Bool) (t : Token) (i : ℕ) → opened_move b t (place_kept t i) ≡ opened_move b t i
blind_opened true t i = blind_line t i
blind_opened false t i = refl

blind_between : (b : Bool) (t : Token) (i : ℕ) → between_move b t (place_kept t i) ≡ between_move b t i
blind_between b (tokens.Word Constant) i = refl
blind_between b (tokens.Word Namespace) i = refl
blind_between b t i = blind_opened b t i

blind_step : (b : Bool) (s : State) (t : Token) (i : ℕ) → granted b (wish s) t (place_kept t i) ≡ granted b (wish s) t i
blind_step b between t i = blind_between b t i
blind_step b constant_word t i = refl
blind_step b constant_percent t i = blind_name (behind_name (wish constant_percent)) t i
blind_step b (constant_name x) t i = refl
blind_step b (constant_equals x) t i = blind_number (behind_number (wish (constant_equals x))) t i
blind_step b namespace_word t i = blind_name (behind_name (wish namespace_word)) t i
blind_step b (namespace_name x) t i = refl
blind_step b (namespace_paren x) t i = blind_size x t i
blind_step b (namespace_percent x) t i = blind_name (behind_name (wish (namespace_percent x))) t i
blind_step b (namespace_size x n) t i = refl
blind_step b pol_word t i = blind_pol t i
blind_step b (columns_word k ds) t i = blind_name (behind_name (wish (columns_word k ds))) t i
blind_step b (columns_name k ds x) t i = refl
blind_step b (columns_bracket k ds x) t i = blind_number (behind_number (wish (columns_bracket k ds x))) t i
blind_step b (columns_length k ds x n) t i = refl
blind_step b (columns_declared k ds d) t i = refl
blind_step b (intermediate_name x) t i = refl
blind_step b public_word t i = blind_name (behind_name (wish public_word)) t i
blind_step b (public_name x) t i = refl
blind_step b (public_equals x) t i = blind_name (behind_name (wish (public_equals x))) t i
blind_step b (public_column x r) t i = refl
blind_step b (public_paren x r) t i = blind_number (behind_number (wish (public_paren x r))) t i
blind_step b (public_row x r n) t i = refl
blind_step b (ref_name h x) t i = blind_named h x t i
blind_step b (ref_dot h s) t i = blind_name (behind_name (wish (ref_dot h s))) t i
blind_step b (ref_spaced h s x) t i = blind_spaced h s x t i
blind_step b (ref_bracket h s x) t i = blind_number (behind_number (wish (ref_bracket h s x))) t i
blind_step b (ref_index h s x n) t i = refl
blind_step b (ref_indexed h s x n) t i = blind_indexed h s x n t i
blind_step b (want k n) t i = blind_want k n t i
blind_step b (have k e n) t i = blind_have k e n t i
blind_step b (fact_percent k n) t i = blind_name (behind_name (wish (fact_percent k n))) t i
blind_step b (fact_colon k n) t i = blind_name (behind_name (wish (fact_colon k n))) t i
blind_step b (list_wanted j) t i = blind_list j t i
blind_step b (list_brace j f) t i = blind_brace j f t i
blind_step b (first_list l) t i = refl
blind_step b (left_lists ls) t i = refl
blind_step b (right_lists ls rs) t i = refl
blind_step b (ending q) t i = refl

kept_token : (t : Token) (i : ℕ) → (kept t i).token ≡ t
kept_token (tokens.Name x) i = refl
kept_token (tokens.Number v) i = refl
kept_token (tokens.Word w) i = refl
kept_token (tokens.Mark OpenBrace) i = refl
kept_token (tokens.Mark Prime) i = refl
kept_token (tokens.Mark k) i = refl

seen_length : (ts : List Placed) → length (map seen ts) ≡ length ts
seen_length [] = refl
seen_length (t ∷ ts) = ap suc (seen_length ts)

onward_same : (m : Limits) (v : Move) (f g : State → Read) (f' g' : Sentence → Read) (left left' : ℕ) → ((s : State) → f s ≡ g s) → ((q : Sentence) → f' q ≡ g' q) → left ≡ left' → onward m v f f' left ≡ onward m v g g' left'
onward_same m (go s) f g f' g' left left' h h' e = h s
onward_same m (end q) f g f' g' left left' h h' e = h' q
onward_same m (nest c s) f g f' g' left left' h h' e = ap (λ (r : Read). cond (nat_lt c m.nested) r (fault TooDeep left)) (h s) ∙ ap (λ (n : ℕ). cond (nat_lt c m.nested) (g s) (fault TooDeep n)) e
onward_same m (count n s) f g f' g' left left' h h' e = ap (λ (r : Read). cond (nat_lt n m.operators) r (fault TooDeep left)) (h s) ∙ ap (λ (k : ℕ). cond (nat_lt n m.operators) (g s) (fault TooDeep k)) e
onward_same m no f g f' g' left left' h h' e = ap (λ (n : ℕ). fault Unexpected n) e

pub blind : (m : Limits) (ts : List Placed) (d : List Sentence) (s : State) → run m d s (map seen ts) ≡ run m d s ts
blind m [] d s = refl
blind m (t ∷ ts) d s =
    ap (λ (k : Token). onward m (granted (has_namespace d) (wish s) k (place_kept t.token t.at)) (λ u. run m d u (map seen ts)) (λ q. run m (d ++ q ∷ []) between (map seen ts)) (length (seen t ∷ map seen ts))) (kept_token t.token t.at)
    ∙ (ap (λ (v : Move). onward m v (λ u. run m d u (map seen ts)) (λ q. run m (d ++ q ∷ []) between (map seen ts)) (length (seen t ∷ map seen ts))) (blind_step (has_namespace d) s t.token t.at)
    ∙ onward_same m (granted (has_namespace d) (wish s) t.token t.at) (λ u. run m d u (map seen ts)) (λ u. run m d u ts) (λ q. run m (d ++ q ∷ []) between (map seen ts)) (λ q. run m (d ++ q ∷ []) between ts) (length (seen t ∷ map seen ts)) (length (t ∷ ts)) (λ u. blind m ts d u) (λ q. blind m ts (d ++ q ∷ []) between) (ap suc (seen_length ts)))
