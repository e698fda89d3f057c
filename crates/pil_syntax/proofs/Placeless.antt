-- Reading takes the same steps wherever the tokens stand.
use Rattle.std.proofs.Common.{◌≡◌, ℕ, ◌+◌, suc, List, [], ◌∷◌, ◌++◌, length, map, Bool, true, false, nat_lt, cond, Option, Some, None, option_map, Ok, Err, refl, ap, sym, ◌∙◌}
use Rattle.std.proofs.lemmas.List.{map-append}
use Rattle.pil_token.specs.declared.token.Word.TheVariants.{Constant, Namespace, Pol, Commit, Public, In, Is}
use Rattle.pil_token.specs.declared.token.Mark.{Mark}
use Rattle.pil_token.specs.declared.token.Mark.TheVariants.{Percent, Equals, Semicolon, OpenParen, CloseParen, OpenBrace, CloseBrace, OpenBracket, CloseBracket, Comma, Dot, Prime, Plus, Minus, Star, Colon}
use Rattle.pil_token.specs.declared.token.Token.{Token}
use Rattle.pil_token.specs.declared.token.Token.TheVariants as tokens
use Rattle.pil_token.specs.declared.token.Placed.{Placed}
use Rattle.pil_syntax.specs.declared.tree.Ident.{Ident}
use Rattle.pil_syntax.specs.declared.tree.Number.{Number}
use Rattle.pil_syntax.specs.declared.tree.Reference.{Reference}
use Rattle.pil_syntax.specs.declared.tree.Declaration.{Declaration}
use Rattle.pil_syntax.specs.declared.tree.ColumnKind.{ColumnKind}
use Rattle.pil_syntax.specs.declared.tree.SyntaxErrKind.TheVariants.{Unexpected, TooDeep}
use Rattle.pil_syntax.specs.Tree.{Term, num, col, constant, public, opp, group, ◌⊕◌, ◌⊖◌, ◌⊗◌, Filter, by_col, Tuple, Sentence, columns, namespace_of}
use Rattle.pil_syntax.specs.Grammar.{Limits}
use Rattle.pil_syntax.specs.Refusal.{Reads}
use Rattle.pil_syntax.specs.State.{Joint, opening, among, inside, against, Around, Sum, Factor, leftmost, right, defining, picked, entry, paren, first, plus, less, plain, times, minus, around_depth, sum_depth, factor_depth, Holder, in_fact, in_filter, in_public, State, between, constant_word, constant_percent, constant_name, constant_equals, namespace_word, namespace_name, namespace_paren, namespace_percent, namespace_size, pol_word, columns_word, columns_name, columns_bracket, columns_length, columns_declared, intermediate_name, public_word, public_name, public_equals, public_column, public_paren, public_row, ref_name, ref_dot, ref_spaced, ref_bracket, ref_index, ref_indexed, want, have, fact_percent, fact_colon, list_wanted, list_brace, first_list, left_lists, right_lists, ending, settle, outer, added, referred, listed, entering}
use Rattle.pil_syntax.specs.Machine.{Move, go, end, nest, count, no, closed, turned, selector_of, selected, braced, shut, parted, finished, have_move, settle_move, want_move, mark_move, name_move, number_move, brace_move, referred_move, refer, indexed_move, spaced_move, named_move, size_move, pol_move, columns_move, columns_name_move, declaration, list_move, first_move, left_move, right_move, ending_move, line_move, opened_move, between_move, wish, behind_mark, behind_name, behind_number, granted, has_namespace, Read, fault, stop, onward, run}
use Rattle.pil_syntax.specs.Placeless.{unplaced_ident, unplaced_number, unplaced_reference, unplaced, unplaced_filter, unplaced_tuple, unplaced_declaration, unplaced_size, unplaced_sentence, token_of, IsPlaceless}
use Rattle.pil_syntax.proofs.Whole.{reads_goes}
use Rattle.pil_syntax.proofs.SoundFiles.{file_of}

abbrev u_joint : Joint → Joint
u_joint opening = opening
u_joint (among ls) = among (map unplaced_tuple ls)
u_joint (inside l) = inside (unplaced_tuple l)
u_joint (against ls rs) = against (map unplaced_tuple ls) (map unplaced_tuple rs)

abbrev mutual
  u_around : Around → Around
  u_around leftmost = leftmost
  u_around (right a) = right (unplaced a)
  u_around (defining x) = defining (unplaced_ident x)
  u_around (picked j) = picked (u_joint j)
  u_around (entry j f i es) = entry (u_joint j) (unplaced_filter f) 0 (map unplaced es)
  u_around (paren k) = paren (u_factor k)

  u_sum : Sum → Sum
  u_sum (first k) = first (u_around k)
  u_sum (plus a k) = plus (unplaced a) (u_around k)
  u_sum (less a k) = less (unplaced a) (u_around k)

  u_factor : Factor → Factor
  u_factor (plain k) = plain (u_sum k)
  u_factor (times a k) = times (unplaced a) (u_sum k)
  u_factor (minus k) = minus (u_factor k)

abbrev u_holder : Holder → Holder
u_holder (in_fact k n) = in_fact (u_factor k) n
u_holder (in_filter j) = in_filter (u_joint j)
u_holder (in_public x) = in_public (unplaced_ident x)

abbrev u_state : State → State
u_state between = between
u_state constant_word = constant_word
u_state constant_percent = constant_percent
u_state (constant_name x) = constant_name (unplaced_ident x)
u_state (constant_equals x) = constant_equals (unplaced_ident x)
u_state namespace_word = namespace_word
u_state (namespace_name x) = namespace_name (unplaced_ident x)
u_state (namespace_paren x) = namespace_paren (unplaced_ident x)
u_state (namespace_percent x) = namespace_percent (unplaced_ident x)
u_state (namespace_size x n) = namespace_size (unplaced_ident x) (unplaced_size n)
u_state pol_word = pol_word
u_state (columns_word k ds) = columns_word k (map unplaced_declaration ds)
u_state (columns_name k ds x) = columns_name k (map unplaced_declaration ds) (unplaced_ident x)
u_state (columns_bracket k ds x) = columns_bracket k (map unplaced_declaration ds) (unplaced_ident x)
u_state (columns_length k ds x n) = columns_length k (map unplaced_declaration ds) (unplaced_ident x) (unplaced_number n)
u_state (columns_declared k ds d) = columns_declared k (map unplaced_declaration ds) (unplaced_declaration d)
u_state (intermediate_name x) = intermediate_name (unplaced_ident x)
u_state public_word = public_word
u_state (public_name x) = public_name (unplaced_ident x)
u_state (public_equals x) = public_equals (unplaced_ident x)
u_state (public_column x r) = public_column (unplaced_ident x) (unplaced_reference r)
u_state (public_paren x r) = public_paren (unplaced_ident x) (unplaced_reference r)
u_state (public_row x r n) = public_row (unplaced_ident x) (unplaced_reference r) (unplaced_number n)
u_state (ref_name h x) = ref_name (u_holder h) (unplaced_ident x)
u_state (ref_dot h x) = ref_dot (u_holder h) (unplaced_ident x)
u_state (ref_spaced h s x) = ref_spaced (u_holder h) (option_map unplaced_ident s) (unplaced_ident x)
u_state (ref_bracket h s x) = ref_bracket (u_holder h) (option_map unplaced_ident s) (unplaced_ident x)
u_state (ref_index h s x n) = ref_index (u_holder h) (option_map unplaced_ident s) (unplaced_ident x) (unplaced_number n)
u_state (ref_indexed h s x n) = ref_indexed (u_holder h) (option_map unplaced_ident s) (unplaced_ident x) (option_map unplaced_number n)
u_state (want k n) = want (u_factor k) n
u_state (have k e n) = have (u_sum k) (unplaced e) n
u_state (fact_percent k n) = fact_percent (u_factor k) n
u_state (fact_colon k n) = fact_colon (u_factor k) n
u_state (list_wanted j) = list_wanted (u_joint j)
u_state (list_brace j f) = list_brace (u_joint j) (unplaced_filter f)
u_state (first_list l) = first_list (unplaced_tuple l)
u_state (left_lists ls) = left_lists (map unplaced_tuple ls)
u_state (right_lists ls rs) = right_lists (map unplaced_tuple ls) (map unplaced_tuple rs)
u_state (ending q) = ending (unplaced_sentence q)

abbrev u_move : Move → Move
u_move (go s) = go (u_state s)
u_move (end q) = end (unplaced_sentence q)
u_move (nest c s) = nest c (u_state s)
u_move (count n s) = count n (u_state s)
u_move no = no

mutual
  u_around_depth : (k : Around) → around_depth k ≡ around_depth (u_around k)
  u_around_depth leftmost = refl
  u_around_depth (right a) = refl
  u_around_depth (defining x) = refl
  u_around_depth (picked j) = refl
  u_around_depth (entry j f i es) = refl
  u_around_depth (paren k) = ap (λ (n : ℕ). n + 1) (u_factor_depth k)

  u_sum_depth : (k : Sum) → sum_depth k ≡ sum_depth (u_sum k)
  u_sum_depth (first k) = u_around_depth k
  u_sum_depth (plus a k) = u_around_depth k
  u_sum_depth (less a k) = u_around_depth k

  u_factor_depth : (k : Factor) → factor_depth k ≡ factor_depth (u_factor k)
  u_factor_depth (plain k) = u_sum_depth k
  u_factor_depth (times a k) = u_sum_depth k
  u_factor_depth (minus k) = ap (λ (n : ℕ). n + 1) (u_factor_depth k)

u_settle : (k : Factor) (e : Term) (n : ℕ) → u_state (settle k e n) ≡ settle (u_factor k) (unplaced e) n
u_settle (plain k) e n = refl
u_settle (times a k) e n = refl
u_settle (minus k) e n = u_settle k (opp e) n

u_outer : (k : Sum) → u_around (outer k) ≡ outer (u_sum k)
u_outer (first k) = refl
u_outer (plus a k) = refl
u_outer (less a k) = refl

u_added : (k : Sum) (e : Term) → unplaced (added k e) ≡ added (u_sum k) (unplaced e)
u_added (first k) e = refl
u_added (plus a k) e = refl
u_added (less a k) e = refl

u_mark : (k : Mark) (s : State) (t : Token) → u_move (mark_move k s t) ≡ mark_move k (u_state s) t
u_mark Percent s (tokens.Mark Percent) = refl
u_mark Equals s (tokens.Mark Equals) = refl
u_mark Semicolon s (tokens.Mark Semicolon) = refl
u_mark OpenParen s (tokens.Mark OpenParen) = refl
u_mark CloseParen s (tokens.Mark CloseParen) = refl
u_mark OpenBrace s (tokens.Mark OpenBrace) = refl
u_mark CloseBrace s (tokens.Mark CloseBrace) = refl
u_mark OpenBracket s (tokens.Mark OpenBracket) = refl
u_mark CloseBracket s (tokens.Mark CloseBracket) = refl
u_mark Comma s (tokens.Mark Comma) = refl
u_mark Dot s (tokens.Mark Dot) = refl
u_mark Prime s (tokens.Mark Prime) = refl
u_mark Plus s (tokens.Mark Plus) = refl
u_mark Minus s (tokens.Mark Minus) = refl
u_mark Star s (tokens.Mark Star) = refl
u_mark Colon s (tokens.Mark Colon) = refl
u_mark k s t = refl

u_name : (f g : Ident → State) (t : Token) (i : ℕ) → ((x : Ident) → u_state (f x) ≡ g (unplaced_ident x)) → u_move (name_move f t i) ≡ name_move g t 0
u_name f g (tokens.Name x) i h = ap go (h (record { name = x; at = i }))
u_name f g t i h = refl

u_number : (f g : Number → State) (t : Token) (i : ℕ) → ((n : Number) → u_state (f n) ≡ g (unplaced_number n)) → u_move (number_move f t i) ≡ number_move g t 0
u_number f g (tokens.Number v) i h = ap go (h (record { value = v; at = i }))
u_number f g t i h = refl

u_listed : (j : Joint) (l : Tuple) → u_state (listed j l) ≡ listed (u_joint j) (unplaced_tuple l)
u_listed opening l = refl
u_listed (among ls) l = ap left_lists (map-append unplaced_tuple ls (l ∷ []))
u_listed (inside k) l = refl
u_listed (against ls rs) l = ap (λ (us : List Tuple). right_lists (map unplaced_tuple ls) us) (map-append unplaced_tuple rs (l ∷ []))

u_closed : (k : Around) (e : Term) (n : ℕ) → u_move (closed k e n) ≡ closed (u_around k) (unplaced e) n
u_closed leftmost e n = refl
u_closed (right a) e n = refl
u_closed (defining x) e n = refl
u_closed (picked j) e n = refl
u_closed (entry j f i es) e n = refl
u_closed (paren k) e n = ap go (u_settle k (group e) n)

u_turned : (k : Around) (e : Term) → u_move (turned k e) ≡ turned (u_around k) (unplaced e)
u_turned leftmost e = refl
u_turned (right a) e = refl
u_turned (defining x) e = refl
u_turned (picked j) e = refl
u_turned (entry j f i es) e = refl
u_turned (paren k) e = refl

u_shut : (k : Around) (e : Term) → u_move (shut k e) ≡ shut (u_around k) (unplaced e)
u_shut leftmost e = refl
u_shut (right a) e = refl
u_shut (defining x) e = refl
u_shut (picked j) e = refl
u_shut (entry j f i es) e = ap go (u_listed j (record { filter = f; at = i; entries = es ++ e ∷ [] }) ∙ ap (λ (us : List Term). let l : Tuple = record { filter = unplaced_filter f; at = 0; entries = us } in listed (u_joint j) l) (map-append unplaced es (e ∷ [])))
u_shut (paren k) e = refl

u_parted : (k : Around) (e : Term) → u_move (parted k e) ≡ parted (u_around k) (unplaced e)
u_parted leftmost e = refl
u_parted (right a) e = refl
u_parted (defining x) e = refl
u_parted (picked j) e = refl
u_parted (entry j f i es) e = ap (λ (us : List Term). go (entering (u_joint j) (unplaced_filter f) 0 us)) (map-append unplaced es (e ∷ []))
u_parted (paren k) e = refl

u_finished : (k : Around) (e : Term) → u_move (finished k e) ≡ finished (u_around k) (unplaced e)
u_finished leftmost e = refl
u_finished (right a) e = refl
u_finished (defining x) e = refl
u_finished (picked j) e = refl
u_finished (entry j f i es) e = refl
u_finished (paren k) e = refl

u_selected : (e : Term) (i : ℕ) → u_move (selected (selector_of e) i) ≡ selected (selector_of (unplaced e)) 0
u_selected (num n) i = refl
u_selected (col r) i = refl
u_selected (constant x) i = refl
u_selected (public x) i = refl
u_selected (opp a) i = refl
u_selected (group a) i = refl
u_selected (a ⊕ b) i = refl
u_selected (a ⊖ b) i = refl
u_selected (a ⊗ b) i = refl

u_braced : (k : Sum) (e : Term) (i : ℕ) → u_move (braced k e i) ≡ braced (u_sum k) (unplaced e) 0
u_braced (first leftmost) e i = u_selected e i
u_braced (first (right a)) e i = refl
u_braced (first (defining x)) e i = refl
u_braced (first (picked j)) e i = refl
u_braced (first (entry j f n es)) e i = refl
u_braced (first (paren k)) e i = refl
u_braced (plus a k) e i = refl
u_braced (less a k) e i = refl

-- a function of the surroundings and the expression, at those of a sum
at_sum : {A : Type 0} (f : Around → Term → A) (k : Sum) (e : Term) → f (u_around (outer k)) (unplaced (added k e)) ≡ f (outer (u_sum k)) (added (u_sum k) (unplaced e))
at_sum f k e = ap (λ (j : Around). f j (unplaced (added k e))) (u_outer k) ∙ ap (λ (x : Term). f (outer (u_sum k)) x) (u_added k e)

u_have : (k : Sum) (e : Term) (n : ℕ) (t : Token) (i : ℕ) → u_move (have_move k e n t i) ≡ have_move (u_sum k) (unplaced e) n t 0
u_have k e n (tokens.Mark Star) i = refl
u_have k e n (tokens.Mark Plus) i = at_sum (λ j x. count n (want (plain (plus x j)) (n + 1))) k e
u_have k e n (tokens.Mark Minus) i = at_sum (λ j x. count n (want (plain (less x j)) (n + 1))) k e
u_have k e n (tokens.Mark CloseParen) i = u_closed (outer k) (added k e) n ∙ at_sum (λ j x. closed j x n) k e
u_have k e n (tokens.Mark Equals) i = u_turned (outer k) (added k e) ∙ at_sum turned k e
u_have k e n (tokens.Mark OpenBrace) i = u_braced k e i
u_have k e n (tokens.Mark CloseBrace) i = u_shut (outer k) (added k e) ∙ at_sum shut k e
u_have k e n (tokens.Mark Comma) i = u_parted (outer k) (added k e) ∙ at_sum parted k e
u_have k e n (tokens.Mark Semicolon) i = u_finished (outer k) (added k e) ∙ at_sum finished k e
u_have k e n t i = refl

u_settle_move : (k : Factor) (e : Term) (n : ℕ) (t : Token) (i : ℕ) → u_move (settle_move k e n t i) ≡ settle_move (u_factor k) (unplaced e) n t 0
u_settle_move (plain k) e n t i = u_have k e n t i
u_settle_move (times a k) e n t i = u_have k (a ⊗ e) n t i
u_settle_move (minus k) e n t i = u_settle_move k (opp e) n t i

u_want : (k : Factor) (n : ℕ) (t : Token) (i : ℕ) → u_move (want_move k n t i) ≡ want_move (u_factor k) n t 0
u_want k n (tokens.Number v) i = ap go (u_settle k (num (record { value = v; at = i })) n)
u_want k n (tokens.Name x) i = refl
u_want k n (tokens.Mark Percent) i = refl
u_want k n (tokens.Mark Colon) i = refl
u_want k n (tokens.Mark Minus) i = ap (λ (c : ℕ). nest c (want (minus (u_factor k)) n)) (u_factor_depth k)
u_want k n (tokens.Mark OpenParen) i = ap (λ (c : ℕ). nest c (want (plain (first (paren (u_factor k)))) n)) (u_factor_depth k)
u_want k n t i = refl

u_brace : (j : Joint) (f : Filter) (t : Token) (i : ℕ) → u_move (brace_move j f t i) ≡ brace_move (u_joint j) (unplaced_filter f) t 0
u_brace j f (tokens.Mark OpenBrace) i = refl
u_brace j f t i = refl

u_referred : (h : Holder) (r : Reference) → u_state (referred h r) ≡ referred (u_holder h) (unplaced_reference r)
u_referred (in_fact k n) r = u_settle k (col r) n
u_referred (in_filter j) r = refl
u_referred (in_public x) r = refl

u_referred_move : (h : Holder) (r : Reference) (t : Token) (i : ℕ) → u_move (referred_move h r t i) ≡ referred_move (u_holder h) (unplaced_reference r) t 0
u_referred_move (in_fact k n) r t i = u_settle_move k (col r) n t i
u_referred_move (in_filter j) r t i = u_brace j (by_col r) t i
u_referred_move (in_public x) r t i = u_mark OpenParen (public_paren x r) t

u_indexed : (h : Holder) (s : Option Ident) (x : Ident) (n : Option Number) (t : Token) (i : ℕ) → u_move (indexed_move h s x n t i) ≡ indexed_move (u_holder h) (option_map unplaced_ident s) (unplaced_ident x) (option_map unplaced_number n) t 0
u_indexed h s x n (tokens.Mark Prime) i = ap go (u_referred h (refer s x n (Some i)))
u_indexed h s x n t i = u_referred_move h (refer s x n None) t i

u_spaced : (h : Holder) (s : Option Ident) (x : Ident) (t : Token) (i : ℕ) → u_move (spaced_move h s x t i) ≡ spaced_move (u_holder h) (option_map unplaced_ident s) (unplaced_ident x) t 0
u_spaced h s x (tokens.Mark OpenBracket) i = refl
u_spaced h s x t i = u_indexed h s x None t i

u_named : (h : Holder) (x : Ident) (t : Token) (i : ℕ) → u_move (named_move h x t i) ≡ named_move (u_holder h) (unplaced_ident x) t 0
u_named h x (tokens.Mark Dot) i = refl
u_named h x t i = u_spaced h None x t i

u_size : (x : Ident) (t : Token) (i : ℕ) → u_move (size_move x t i) ≡ size_move (unplaced_ident x) t 0
u_size x (tokens.Number v) i = refl
u_size x (tokens.Mark Percent) i = refl
u_size x t i = refl

u_pol : (t : Token) (i : ℕ) → u_move (pol_move t i) ≡ pol_move t 0
u_pol (tokens.Word Constant) i = refl
u_pol (tokens.Word Commit) i = refl
u_pol (tokens.Name x) i = refl
u_pol t i = refl

u_columns : (k : ColumnKind) (ds : List Declaration) (d : Declaration) (t : Token) → u_move (columns_move k ds d t) ≡ columns_move k (map unplaced_declaration ds) (unplaced_declaration d) t
u_columns k ds d (tokens.Mark Comma) = ap (λ (us : List Declaration). go (columns_word k us)) (map-append unplaced_declaration ds (d ∷ []))
u_columns k ds d (tokens.Mark Semicolon) = ap (λ (us : List Declaration). end (columns k us)) (map-append unplaced_declaration ds (d ∷ []))
u_columns k ds d t = refl

u_columns_name : (k : ColumnKind) (ds : List Declaration) (x : Ident) (t : Token) → u_move (columns_name_move k ds x t) ≡ columns_name_move k (map unplaced_declaration ds) (unplaced_ident x) t
u_columns_name k ds x (tokens.Mark OpenBracket) = refl
u_columns_name k ds x t = u_columns k ds (declaration x None) t

u_list : (j : Joint) (t : Token) (i : ℕ) → u_move (list_move j t i) ≡ list_move (u_joint j) t 0
u_list j (tokens.Mark OpenBrace) i = refl
u_list j (tokens.Name x) i = refl
u_list j (tokens.Mark OpenParen) i = refl
u_list j t i = refl

u_first : (l : Tuple) (t : Token) → u_move (first_move l t) ≡ first_move (unplaced_tuple l) t
u_first l (tokens.Word In) = refl
u_first l (tokens.Word Is) = refl
u_first l (tokens.Mark Plus) = refl
u_first l t = refl

u_left : (ls : List Tuple) (t : Token) → u_move (left_move ls t) ≡ left_move (map unplaced_tuple ls) t
u_left ls (tokens.Word Is) = refl
u_left ls (tokens.Mark Plus) = refl
u_left ls t = refl

u_right : (ls rs : List Tuple) (t : Token) → u_move (right_move ls rs t) ≡ right_move (map unplaced_tuple ls) (map unplaced_tuple rs) t
u_right ls rs (tokens.Mark Plus) = refl
u_right ls rs (tokens.Mark Semicolon) = refl
u_right ls rs t = refl

u_ending : (q : Sentence) (t : Token) → u_move (ending_move q t) ≡ ending_move (unplaced_sentence q) t
u_ending q (tokens.Mark Semicolon) = refl
u_ending q t = refl

u_line : (t : Token) (i : ℕ) → u_move (line_move t i) ≡ line_move t 0
u_line (tokens.Word Pol) i = refl
u_line (tokens.Word Public) i = refl
u_line (tokens.Mark OpenBrace) i = refl
u_line t i = u_want (plain (first leftmost)) 0 t i

u_opened : (b : Bool) (t : Token) (i : ℕ) → u_move (opened_move b t i) ≡ opened_move b t 0
u_opened true t i = u_line t i
u_opened false t i = refl

u_between : (b : Bool) (t : Token) (i : ℕ) → u_move (between_move b t i) ≡ between_move b t 0
u_between b (tokens.Word Constant) i = refl
u_between b (tokens.Word Namespace) i = refl
u_between b t i = u_opened b t i

u_step : (b : Bool) (s : State) (t : Token) (i : ℕ) → u_move (granted b (wish s) t i) ≡ granted b (wish (u_state s)) t 0
u_step b between t i = u_between b t i
u_step b constant_word t i = u_mark Percent (behind_mark (wish constant_word)) t
u_step b constant_percent t i = u_name (behind_name (wish constant_percent)) (behind_name (wish constant_percent)) t i (λ x. refl)
u_step b (constant_name x) t i = u_mark Equals (behind_mark (wish (constant_name x))) t
u_step b (constant_equals x) t i = u_number (behind_number (wish (constant_equals x))) (behind_number (wish (u_state (constant_equals x)))) t i (λ n. refl)
u_step b namespace_word t i = u_name (behind_name (wish namespace_word)) (behind_name (wish namespace_word)) t i (λ x. refl)
u_step b (namespace_name x) t i = u_mark OpenParen (behind_mark (wish (namespace_name x))) t
u_step b (namespace_paren x) t i = u_size x t i
u_step b (namespace_percent x) t i = u_name (behind_name (wish (namespace_percent x))) (behind_name (wish (u_state (namespace_percent x)))) t i (λ y. refl)
u_step b (namespace_size x n) t i = u_mark CloseParen (behind_mark (wish (namespace_size x n))) t
u_step b pol_word t i = u_pol t i
u_step b (columns_word k ds) t i = u_name (behind_name (wish (columns_word k ds))) (behind_name (wish (u_state (columns_word k ds)))) t i (λ x. refl)
u_step b (columns_name k ds x) t i = u_columns_name k ds x t
u_step b (columns_bracket k ds x) t i = u_number (behind_number (wish (columns_bracket k ds x))) (behind_number (wish (u_state (columns_bracket k ds x)))) t i (λ n. refl)
u_step b (columns_length k ds x n) t i = u_mark CloseBracket (behind_mark (wish (columns_length k ds x n))) t
u_step b (columns_declared k ds d) t i = u_columns k ds d t
u_step b (intermediate_name x) t i = u_mark Equals (behind_mark (wish (intermediate_name x))) t
u_step b public_word t i = u_name (behind_name (wish public_word)) (behind_name (wish public_word)) t i (λ x. refl)
u_step b (public_name x) t i = u_mark Equals (behind_mark (wish (public_name x))) t
u_step b (public_equals x) t i = u_name (behind_name (wish (public_equals x))) (behind_name (wish (u_state (public_equals x)))) t i (λ y. refl)
u_step b (public_column x r) t i = u_mark OpenParen (behind_mark (wish (public_column x r))) t
u_step b (public_paren x r) t i = u_number (behind_number (wish (public_paren x r))) (behind_number (wish (u_state (public_paren x r)))) t i (λ n. refl)
u_step b (public_row x r n) t i = u_mark CloseParen (behind_mark (wish (public_row x r n))) t
u_step b (ref_name h x) t i = u_named h x t i
u_step b (ref_dot h s) t i = u_name (behind_name (wish (ref_dot h s))) (behind_name (wish (u_state (ref_dot h s)))) t i (λ y. refl)
u_step b (ref_spaced h s x) t i = u_spaced h s x t i
u_step b (ref_bracket h s x) t i = u_number (behind_number (wish (ref_bracket h s x))) (behind_number (wish (u_state (ref_bracket h s x)))) t i (λ n. refl)
u_step b (ref_index h s x n) t i = u_mark CloseBracket (behind_mark (wish (ref_index h s x n))) t
u_step b (ref_indexed h s x n) t i = u_indexed h s x n t i
u_step b (want k n) t i = u_want k n t i
u_step b (have k e n) t i = u_have k e n t i
u_step b (fact_percent k n) t i = u_name (behind_name (wish (fact_percent k n))) (behind_name (wish (u_state (fact_percent k n)))) t i (λ y. u_settle k (constant y) n)
u_step b (fact_colon k n) t i = u_name (behind_name (wish (fact_colon k n))) (behind_name (wish (u_state (fact_colon k n)))) t i (λ y. u_settle k (public y) n)
u_step b (list_wanted j) t i = u_list j t i
u_step b (list_brace j f) t i = u_brace j f t i
u_step b (first_list l) t i = u_first l t
u_step b (left_lists ls) t i = u_left ls t
u_step b (right_lists ls rs) t i = u_right ls rs t
u_step b (ending q) t i = u_ending q t

u_has : (d : List Sentence) → has_namespace d ≡ has_namespace (map unplaced_sentence d)
u_has [] = refl
u_has (namespace_of x n ∷ d) = refl
u_has (q ∷ d) = u_has d

abbrev u_read : Read → Read
u_read (Ok ss) = Ok (map unplaced_sentence ss)
u_read (Err f) = Err f

u_stop : (d : List Sentence) (s : State) → u_read (stop d (wish s)) ≡ stop (map unplaced_sentence d) (wish (u_state s))
u_stop d between = refl
u_stop d s = refl

abbrev bare_token : Placed → Placed
bare_token t = record { token = t.token; at = 0 }

bare_length : (ts : List Placed) → length ts ≡ length (map bare_token ts)
bare_length [] = refl
bare_length (t ∷ ts) = ap suc (bare_length ts)

u_cond : (b : Bool) (r s : Read) (n k : ℕ) → u_read r ≡ s → n ≡ k → u_read (cond b r (fault TooDeep n)) ≡ cond b s (fault TooDeep k)
u_cond true r s n k h e = h
u_cond false r s n k h e = ap (λ (i : ℕ). fault TooDeep i) e

u_onward : (m : Limits) (v : Move) (f g : State → Read) (f' g' : Sentence → Read) (n k : ℕ) → ((s : State) → u_read (f s) ≡ g (u_state s)) → ((q : Sentence) → u_read (f' q) ≡ g' (unplaced_sentence q)) → n ≡ k → u_read (onward m v f f' n) ≡ onward m (u_move v) g g' k
u_onward m (go s) f g f' g' n k h h' e = h s
u_onward m (end q) f g f' g' n k h h' e = h' q
u_onward m (nest c s) f g f' g' n k h h' e = u_cond (nat_lt c m.nested) (f s) (g (u_state s)) n k (h s) e
u_onward m (count c s) f g f' g' n k h h' e = u_cond (nat_lt c m.operators) (f s) (g (u_state s)) n k (h s) e
u_onward m no f g f' g' n k h h' e = ap (λ (i : ℕ). fault Unexpected i) e

u_run : (m : Limits) (ts : List Placed) (d : List Sentence) (s : State) → u_read (run m d s ts) ≡ run m (map unplaced_sentence d) (u_state s) (map bare_token ts)
u_run m [] d s = u_stop d s
u_run m (t ∷ ts) d s =
    let d' : List Sentence = map unplaced_sentence d in
    let us : List Placed = map bare_token ts in
    u_onward m (granted (has_namespace d) (wish s) t.token t.at) (λ u. run m d u ts) (λ u. run m d' u us) (λ q. run m (d ++ q ∷ []) between ts) (λ q. run m (d' ++ q ∷ []) between us) (length (t ∷ ts)) (length (bare_token t ∷ us))
    (λ u. u_run m ts d u)
    (λ q. u_run m ts (d ++ q ∷ []) between ∙ ap (λ (ws : List Sentence). run m ws between us) (map-append unplaced_sentence d (q ∷ [])))
    (ap suc (bare_length ts))
    ∙ ap (λ (v : Move). onward m v (λ u. run m d' u us) (λ q. run m (d' ++ q ∷ []) between us) (length (bare_token t ∷ us)))
    (u_step (has_namespace d) s t.token t.at ∙ ap (λ (b : Bool). granted b (wish (u_state s)) t.token 0) (u_has d))

same_bare : (ts us : List Placed) → map token_of ts ≡ map token_of us → map bare_token ts ≡ map bare_token us
same_bare [] [] e = refl
same_bare [] (u ∷ us) e = cc
same_bare (t ∷ ts) [] e = cc
same_bare (t ∷ ts) (u ∷ us) e =
    let h : t.token ≡ u.token = cc in
    let i : map token_of ts ≡ map token_of us = cc in
    ap (λ (k : Token). let w : Placed = record { token = k; at = 0 } in w ∷ map bare_token ts) h ∙ ap (λ (ws : List Placed). bare_token u ∷ ws) (same_bare ts us i)

moved_from : (m : Limits) (ts : List Placed) (ss : List Sentence) (r : Read) → run m [] between ts ≡ r → u_read r ≡ Ok (map unplaced_sentence ss) → (qs : List Sentence) × Reads m ts qs × (map unplaced_sentence qs ≡ map unplaced_sentence ss)
moved_from m ts ss (Ok qs) e h = let g : map unplaced_sentence qs ≡ map unplaced_sentence ss = cc in (qs, file_of m ts qs e, g)
moved_from m ts ss (Err f) e h = cc

moved : (m : Limits) (ts us : List Placed) (ss : List Sentence) → map token_of ts ≡ map token_of us → Reads m us ss → (qs : List Sentence) × Reads m ts qs × (map unplaced_sentence qs ≡ map unplaced_sentence ss)
moved m ts us ss e r = moved_from m ts ss (run m [] between ts) refl
    (u_run m ts [] between
    ∙ (ap (λ (ws : List Placed). run m [] between ws) (same_bare ts us e)
    ∙ (sym (u_run m us [] between)
    ∙ ap u_read (reads_goes m us ss r))))

pub placeless : IsPlaceless
placeless = record { moved = moved }
