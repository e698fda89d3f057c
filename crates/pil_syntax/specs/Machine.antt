-- Reading a file a token at a time.
use Rattle.std.specs.Prelude.{◌≡◌, ℕ, ◌+◌, List, [], ◌∷◌, ◌++◌, length, Bool, true, false, Option, Some, None, Result, Ok, Err, nat_lt, if◌then◌else◌, ◌-◌, drop}
use Rattle.pil_token.specs.declared.token.Word.TheVariants.{Constant, Namespace, Pol, Commit, Public, In, Is}
use Rattle.pil_token.specs.declared.token.Mark.{Mark}
use Rattle.pil_token.specs.declared.token.Mark.TheVariants.{Percent, Equals, Semicolon, OpenParen, CloseParen, OpenBrace, CloseBrace, OpenBracket, CloseBracket, Comma, Dot, Prime, Plus, Minus, Star, Colon}
use Rattle.pil_token.specs.declared.token.Token.{Token}
use Rattle.pil_token.specs.declared.token.Token.TheVariants as tokens
use Rattle.pil_token.specs.declared.token.Placed.{Placed}
use Rattle.pil_syntax.specs.declared.tree.Ident.{Ident}
use Rattle.pil_syntax.specs.declared.tree.Number.{Number}
use Rattle.pil_syntax.specs.declared.tree.Reference.{Reference}
use Rattle.pil_syntax.specs.declared.tree.Declaration.{Declaration}
use Rattle.pil_syntax.specs.declared.tree.ColumnKind.{ColumnKind}
use Rattle.pil_syntax.specs.declared.tree.ColumnKind.TheVariants as kinds
use Rattle.pil_syntax.specs.declared.tree.Size.TheVariants as sizes
use Rattle.pil_syntax.specs.declared.tree.SyntaxErrKind.{SyntaxErrKind}
use Rattle.pil_syntax.specs.declared.tree.SyntaxErrKind.TheVariants.{Unexpected, TooDeep, NoMemory}
use Rattle.pil_syntax.specs.declared.tree.SyntaxErr.{SyntaxErr}
use Rattle.pil_syntax.specs.declared.expression.Sign.{Sign}
use Rattle.pil_syntax.specs.declared.expression.Sign.TheVariants as signs
use Rattle.pil_syntax.specs.declared.line.Joiner.{Joiner}
use Rattle.pil_syntax.specs.declared.line.Joiner.TheVariants as joiners
use Rattle.pil_syntax.specs.declared.failure.Fault.{Fault}
use Rattle.pil_syntax.specs.declared.failure.ReadError.{ReadError}
use Rattle.pil_syntax.specs.declared.failure.ReadError.TheVariants as errors
use Rattle.pil_syntax.specs.Tree.{Term, num, col, constant, public, opp, group, ◌⊕◌, ◌⊖◌, ◌⊗◌, Filter, every, by_col, by_group, Tuple, Sentence, constant_is, namespace_of, columns, intermediate, public_is, identity, bus}
use Rattle.pil_syntax.specs.Grammar.{Limits}
use Rattle.pil_syntax.specs.Refusal.{place}
use Rattle.pil_syntax.specs.State.{Joint, opening, among, inside, against, Around, Sum, Factor, leftmost, right, defining, picked, entry, paren, first, plus, less, plain, times, minus, factor_depth, Holder, in_fact, in_filter, in_public, State, between, constant_word, constant_percent, constant_name, constant_equals, namespace_word, namespace_name, namespace_paren, namespace_percent, namespace_size, pol_word, columns_word, columns_name, columns_bracket, columns_length, columns_declared, intermediate_name, public_word, public_name, public_equals, public_column, public_paren, public_row, ref_name, ref_dot, ref_spaced, ref_bracket, ref_index, ref_indexed, want, have, fact_percent, fact_colon, list_wanted, list_brace, first_list, left_lists, right_lists, ending, settle, outer, added, referred, listed, entering}

-- what a token does
pub data Move : Type 0 where
  go : State → Move
  end : Sentence → Move  -- it ends a statement
  nest : ℕ → State → Move  -- it opens a parenthesis or a prefix minus below so many others
  count : ℕ → State → Move  -- it is an operator behind so many others
  no : Move

-- the expression is read up to a `)`, `=`, `{`, `}`, `,` or `;`
abbrev pub closed : Around → Term → ℕ → Move
closed (paren k) e n = go (settle k (group e) n)
closed (picked j) e n = go (list_brace j (by_group e))
closed _ e n = no

abbrev pub turned : Around → Term → Move
turned leftmost e = go (want (plain (first (right e))) 0)
turned _ e = no

-- the selector that an expression is, if it is a reference or in parentheses
abbrev pub selector_of : Term → Option Filter
selector_of (col r) = Some (by_col r)
selector_of (group e) = Some (by_group e)
selector_of _ = None

abbrev pub selected : Option Filter → ℕ → Move
selected (Some f) i = go (entering opening f i [])
selected None i = no

abbrev pub braced : Sum → Term → ℕ → Move
braced (first leftmost) e i = selected (selector_of e) i
braced _ e i = no

abbrev pub shut : Around → Term → Move
shut (entry j f i es) e = go (listed j (record { filter = f; at = i; entries = es ++ e ∷ [] }))
shut _ e = no

abbrev pub parted : Around → Term → Move
parted (entry j f i es) e = go (entering j f i (es ++ e ∷ []))
parted _ e = no

abbrev pub finished : Around → Term → Move
finished (right a) e = end (identity a e)
finished (defining x) e = end (intermediate x e)
finished _ e = no

-- a term is read
abbrev pub have_move : Sum → Term → ℕ → Token → ℕ → Move
have_move k e n (tokens.Mark Star) i = count n (want (times e k) (n + 1))
have_move k e n (tokens.Mark Plus) i = count n (want (plain (plus (added k e) (outer k))) (n + 1))
have_move k e n (tokens.Mark Minus) i = count n (want (plain (less (added k e) (outer k))) (n + 1))
have_move k e n (tokens.Mark CloseParen) i = closed (outer k) (added k e) n
have_move k e n (tokens.Mark Equals) i = turned (outer k) (added k e)
have_move k e n (tokens.Mark OpenBrace) i = braced k e i
have_move k e n (tokens.Mark CloseBrace) i = shut (outer k) (added k e)
have_move k e n (tokens.Mark Comma) i = parted (outer k) (added k e)
have_move k e n (tokens.Mark Semicolon) i = finished (outer k) (added k e)
have_move k e n _ i = no

abbrev pub settle_move : Factor → Term → ℕ → Token → ℕ → Move
settle_move (plain k) e n t i = have_move k e n t i
settle_move (times a k) e n t i = have_move k (a ⊗ e) n t i
settle_move (minus k) e n t i = settle_move k (opp e) n t i

-- a fact is wanted
abbrev pub want_move : Factor → ℕ → Token → ℕ → Move
want_move k n (tokens.Number v) i = go (settle k (num (record { value = v; at = i })) n)
want_move k n (tokens.Name x) i = go (ref_name (in_fact k n) (record { name = x; at = i }))
want_move k n (tokens.Mark Percent) i = go (fact_percent k n)
want_move k n (tokens.Mark Colon) i = go (fact_colon k n)
want_move k n (tokens.Mark Minus) i = nest (factor_depth k) (want (minus k) n)
want_move k n (tokens.Mark OpenParen) i = nest (factor_depth k) (want (plain (first (paren k))) n)
want_move k n _ i = no

-- a mark is wanted, and then this state
abbrev pub mark_move : Mark → State → Token → Move
mark_move Percent s (tokens.Mark Percent) = go s
mark_move Equals s (tokens.Mark Equals) = go s
mark_move Semicolon s (tokens.Mark Semicolon) = go s
mark_move OpenParen s (tokens.Mark OpenParen) = go s
mark_move CloseParen s (tokens.Mark CloseParen) = go s
mark_move OpenBrace s (tokens.Mark OpenBrace) = go s
mark_move CloseBrace s (tokens.Mark CloseBrace) = go s
mark_move OpenBracket s (tokens.Mark OpenBracket) = go s
mark_move CloseBracket s (tokens.Mark CloseBracket) = go s
mark_move Comma s (tokens.Mark Comma) = go s
mark_move Dot s (tokens.Mark Dot) = go s
mark_move Prime s (tokens.Mark Prime) = go s
mark_move Plus s (tokens.Mark Plus) = go s
mark_move Minus s (tokens.Mark Minus) = go s
mark_move Star s (tokens.Mark Star) = go s
mark_move Colon s (tokens.Mark Colon) = go s
mark_move _ s _ = no

-- a name is wanted, or a number
abbrev pub name_move : (Ident → State) → Token → ℕ → Move
name_move f (tokens.Name x) i = go (f (record { name = x; at = i }))
name_move f _ i = no

abbrev pub number_move : (Number → State) → Token → ℕ → Move
number_move f (tokens.Number v) i = go (f (record { value = v; at = i }))
number_move f _ i = no

-- the `{` of a list
abbrev pub brace_move : Joint → Filter → Token → ℕ → Move
brace_move j f (tokens.Mark OpenBrace) i = go (entering j f i [])
brace_move j f _ i = no

-- behind a reference
abbrev pub referred_move : Holder → Reference → Token → ℕ → Move
referred_move (in_fact k n) r t i = settle_move k (col r) n t i
referred_move (in_filter j) r t i = brace_move j (by_col r) t i
referred_move (in_public x) r t i = mark_move OpenParen (public_paren x r) t

abbrev pub refer : Option Ident → Ident → Option Number → Option ℕ → Reference
refer s x n m = record { space = s; name = x; index = n; next = m }

abbrev pub indexed_move : Holder → Option Ident → Ident → Option Number → Token → ℕ → Move
indexed_move h s x n (tokens.Mark Prime) i = go (referred h (refer s x n (Some i)))
indexed_move h s x n t i = referred_move h (refer s x n None) t i

abbrev pub spaced_move : Holder → Option Ident → Ident → Token → ℕ → Move
spaced_move h s x (tokens.Mark OpenBracket) i = go (ref_bracket h s x)
spaced_move h s x t i = indexed_move h s x None t i

abbrev pub named_move : Holder → Ident → Token → ℕ → Move
named_move h x (tokens.Mark Dot) i = go (ref_dot h x)
named_move h x t i = spaced_move h None x t i

abbrev pub size_move : Ident → Token → ℕ → Move
size_move x (tokens.Number v) i = go (namespace_size x (sizes.Number (record { value = v; at = i })))
size_move x (tokens.Mark Percent) i = go (namespace_percent x)
size_move x _ i = no

abbrev pub pol_move : Token → ℕ → Move
pol_move (tokens.Word Constant) i = go (columns_word kinds.Constant [])
pol_move (tokens.Word Commit) i = go (columns_word kinds.Commit [])
pol_move (tokens.Name x) i = go (intermediate_name (record { name = x; at = i }))
pol_move _ i = no

abbrev pub declaration : Ident → Option Number → Declaration
declaration x n = record { name = x; length = n }

abbrev pub columns_move : ColumnKind → List Declaration → Declaration → Token → Move
columns_move k ds d (tokens.Mark Comma) = go (columns_word k (ds ++ d ∷ []))
columns_move k ds d (tokens.Mark Semicolon) = end (columns k (ds ++ d ∷ []))
columns_move k ds d _ = no

abbrev pub columns_name_move : ColumnKind → List Declaration → Ident → Token → Move
columns_name_move k ds x (tokens.Mark OpenBracket) = go (columns_bracket k ds x)
columns_name_move k ds x t = columns_move k ds (declaration x None) t

abbrev pub list_move : Joint → Token → ℕ → Move
list_move j (tokens.Mark OpenBrace) i = go (entering j every i [])
list_move j (tokens.Name x) i = go (ref_name (in_filter j) (record { name = x; at = i }))
list_move j (tokens.Mark OpenParen) i = nest 0 (want (plain (first (picked j))) 0)
list_move j _ i = no

abbrev pub first_move : Tuple → Token → Move
first_move l (tokens.Word In) = go (list_wanted (inside l))
first_move l (tokens.Word Is) = go (list_wanted (against (l ∷ []) []))
first_move l (tokens.Mark Plus) = go (list_wanted (among (l ∷ [])))
first_move l _ = no

abbrev pub left_move : List Tuple → Token → Move
left_move ls (tokens.Word Is) = go (list_wanted (against ls []))
left_move ls (tokens.Mark Plus) = go (list_wanted (among ls))
left_move ls _ = no

abbrev pub right_move : List Tuple → List Tuple → Token → Move
right_move ls rs (tokens.Mark Plus) = go (list_wanted (against ls rs))
right_move ls rs (tokens.Mark Semicolon) = end (bus ls rs)
right_move ls rs _ = no

abbrev pub ending_move : Sentence → Token → Move
ending_move s (tokens.Mark Semicolon) = end s
ending_move s _ = no

-- a line, behind a namespace
abbrev pub line_move : Token → ℕ → Move
line_move (tokens.Word Pol) i = go pol_word
line_move (tokens.Word Public) i = go public_word
line_move (tokens.Mark OpenBrace) i = go (entering opening every i [])
line_move t i = want_move (plain (first leftmost)) 0 t i

abbrev pub opened_move : Bool → Token → ℕ → Move
opened_move true t i = line_move t i
opened_move false t i = no

-- a statement, where a namespace stands before it or not
abbrev pub between_move : Bool → Token → ℕ → Move
between_move b (tokens.Word Constant) i = go constant_word
between_move b (tokens.Word Namespace) i = go namespace_word
between_move b t i = opened_move b t i

-- what a state waits for
pub data Wish : Type 0 where
  statement : Wish
  a_mark : Mark → State → Wish
  a_name : (Ident → State) → Wish
  a_number : (Number → State) → Wish
  choice : (Token → ℕ → Move) → Wish

abbrev pub wish : State → Wish
wish between = statement
wish constant_word = a_mark Percent constant_percent
wish constant_percent = a_name constant_name
wish (constant_name x) = a_mark Equals (constant_equals x)
wish (constant_equals x) = a_number (λ n. ending (constant_is x n))
wish namespace_word = a_name namespace_name
wish (namespace_name x) = a_mark OpenParen (namespace_paren x)
wish (namespace_paren x) = choice (size_move x)
wish (namespace_percent x) = a_name (λ y. namespace_size x (sizes.Constant y))
wish (namespace_size x n) = a_mark CloseParen (ending (namespace_of x n))
wish pol_word = choice pol_move
wish (columns_word k ds) = a_name (columns_name k ds)
wish (columns_name k ds x) = choice (λ t i. columns_name_move k ds x t)
wish (columns_bracket k ds x) = a_number (columns_length k ds x)
wish (columns_length k ds x n) = a_mark CloseBracket (columns_declared k ds (declaration x (Some n)))
wish (columns_declared k ds d) = choice (λ t i. columns_move k ds d t)
wish (intermediate_name x) = a_mark Equals (want (plain (first (defining x))) 0)
wish public_word = a_name public_name
wish (public_name x) = a_mark Equals (public_equals x)
wish (public_equals x) = a_name (ref_name (in_public x))
wish (public_column x r) = a_mark OpenParen (public_paren x r)
wish (public_paren x r) = a_number (public_row x r)
wish (public_row x r n) = a_mark CloseParen (ending (public_is x r n))
wish (ref_name h x) = choice (named_move h x)
wish (ref_dot h s) = a_name (ref_spaced h (Some s))
wish (ref_spaced h s x) = choice (spaced_move h s x)
wish (ref_bracket h s x) = a_number (ref_index h s x)
wish (ref_index h s x n) = a_mark CloseBracket (ref_indexed h s x (Some n))
wish (ref_indexed h s x n) = choice (indexed_move h s x n)
wish (want k n) = choice (want_move k n)
wish (have k e n) = choice (have_move k e n)
wish (fact_percent k n) = a_name (λ x. settle k (constant x) n)
wish (fact_colon k n) = a_name (λ x. settle k (public x) n)
wish (list_wanted j) = choice (list_move j)
wish (list_brace j f) = choice (brace_move j f)
wish (first_list l) = choice (λ t i. first_move l t)
wish (left_lists ls) = choice (λ t i. left_move ls t)
wish (right_lists ls rs) = choice (λ t i. right_move ls rs t)
wish (ending s) = choice (λ t i. ending_move s t)

-- the wish is for this mark, and the state behind it
abbrev pub AwaitsMark : Mark → Wish → Type 0
AwaitsMark k statement = ⊥
AwaitsMark k (a_mark j s) = k ≡ j
AwaitsMark k (a_name f) = ⊥
AwaitsMark k (a_number f) = ⊥
AwaitsMark k (choice f) = ⊥

abbrev pub behind_mark : Wish → State
behind_mark (a_mark k s) = s
behind_mark _ = between

-- the wish is for a name, and the state behind it
abbrev pub AwaitsName : Wish → Type 0
AwaitsName statement = ⊥
AwaitsName (a_mark k s) = ⊥
AwaitsName (a_name f) = Unit {0}
AwaitsName (a_number f) = ⊥
AwaitsName (choice f) = ⊥

abbrev pub behind_name : Wish → Ident → State
behind_name (a_name f) x = f x
behind_name _ x = between

-- the wish is for a number, and the state behind it
abbrev pub AwaitsNumber : Wish → Type 0
AwaitsNumber statement = ⊥
AwaitsNumber (a_mark k s) = ⊥
AwaitsNumber (a_name f) = ⊥
AwaitsNumber (a_number f) = Unit {0}
AwaitsNumber (choice f) = ⊥

abbrev pub behind_number : Wish → Number → State
behind_number (a_number f) n = f n
behind_number _ n = between

-- what a token does to a state that waits so, where a namespace stands before or not
abbrev pub granted : Bool → Wish → Token → ℕ → Move
granted b statement t i = between_move b t i
granted b (a_mark m s) t i = mark_move m s t
granted b (a_name f) t i = name_move f t i
granted b (a_number f) t i = number_move f t i
granted b (choice f) t i = f t i

-- whether a namespace is among the statements
abbrev pub has_namespace : List Sentence → Bool
has_namespace [] = false
has_namespace (namespace_of x n ∷ ss) = true
has_namespace (_ ∷ ss) = has_namespace ss

abbrev pub Read : Type 0
Read = Result (List Sentence) Fault

abbrev pub fault : SyntaxErrKind → ℕ → Read
fault k left = Err (record { kind = k; left = left })

-- the statements of the file, if it ends there
abbrev pub stop : List Sentence → Wish → Read
stop d statement = Ok d
stop d (a_mark m s) = fault Unexpected 0
stop d (a_name f) = fault Unexpected 0
stop d (a_number f) = fault Unexpected 0
stop d (choice f) = fault Unexpected 0

-- what a move leads to: another state, or another statement; so many tokens are left at its token
abbrev pub onward : Limits → Move → (State → Read) → (Sentence → Read) → ℕ → Read
onward m (go s) f g left = f s
onward m (end s) f g left = g s
onward m (nest d s) f g left = if nat_lt d m.nested then f s else fault TooDeep left
onward m (count n s) f g left = if nat_lt n m.operators then f s else fault TooDeep left
onward m no f g left = fault Unexpected left

-- the file's statements, from those read so far, a state and the tokens that are left
abbrev pub run : Limits → List Sentence → State → List Placed → Read
run m d s [] = stop d (wish s)
run m d s (t ∷ ts) = onward m (granted (has_namespace d) (wish s) t.token t.at) (λ s'. run m d s' ts) (λ q. run m (d ++ q ∷ []) between ts) (length (t ∷ ts))

-- the error is that fault, unless memory ran out
abbrev pub Fails : ReadError → Read → Type 0
Fails errors.Memory read = Unit {0}
Fails (errors.Fault f) read = read ≡ Err f

-- That reading goes on from that state and rest, or ends in that fault.
abbrev pub Leads : {X : Type 0} → Limits → List Sentence → (X → State) → (X → List Placed) → Read → Result X ReadError → Type 0
Leads m d to rest read (Ok x) = read ≡ run m d (to x) (rest x)
Leads m d to rest read (Err e) = Fails e read

-- That reading goes on behind that statement, or ends in that fault.
abbrev pub Ends : {X : Type 0} → Limits → List Sentence → (X → Sentence) → (X → List Placed) → Read → Result X ReadError → Type 0
Ends m d made rest read (Ok x) = read ≡ run m (d ++ made x ∷ []) between (rest x)
Ends m d made rest read (Err e) = Fails e read

-- the first token is of no such kind
abbrev pub IsNoNesting : Token → Type 0
IsNoNesting (tokens.Mark Minus) = ⊥
IsNoNesting (tokens.Mark OpenParen) = ⊥
IsNoNesting _ = Unit {0}

abbrev pub NoNesting : List Placed → Type 0
NoNesting [] = Unit {0}
NoNesting (t ∷ ts) = IsNoNesting t.token

abbrev pub IsNoStar : Token → Type 0
IsNoStar (tokens.Mark Star) = ⊥
IsNoStar _ = Unit {0}

abbrev pub NoStar : List Placed → Type 0
NoStar [] = Unit {0}
NoStar (t ∷ ts) = IsNoStar t.token

abbrev pub IsNoSign : Token → Type 0
IsNoSign (tokens.Mark Plus) = ⊥
IsNoSign (tokens.Mark Minus) = ⊥
IsNoSign _ = Unit {0}

abbrev pub NoSign : List Placed → Type 0
NoSign [] = Unit {0}
NoSign (t ∷ ts) = IsNoSign t.token

abbrev pub NoOperator : List Placed → Type 0
NoOperator ts = NoStar ts × NoSign ts

abbrev pub signed : Sign → Term → Term → Term
signed signs.Plus a b = a ⊕ b
signed signs.Minus a b = a ⊖ b

abbrev pub signed_sum : Sign → Term → Around → Sum
signed_sum signs.Plus a k = plus a k
signed_sum signs.Minus a k = less a k

abbrev pub IsNoPlus : Token → Type 0
IsNoPlus (tokens.Mark Plus) = ⊥
IsNoPlus _ = Unit {0}

abbrev pub NoPlus : List Placed → Type 0
NoPlus [] = Unit {0}
NoPlus (t ∷ ts) = IsNoPlus t.token

abbrev pub IsNoJoiner : Token → Type 0
IsNoJoiner (tokens.Word In) = ⊥
IsNoJoiner (tokens.Word Is) = ⊥
IsNoJoiner (tokens.Mark Plus) = ⊥
IsNoJoiner _ = Unit {0}

abbrev pub NoJoiner : List Placed → Type 0
NoJoiner [] = Unit {0}
NoJoiner (t ∷ ts) = IsNoJoiner t.token

-- where the next list stands
abbrev pub joined_by : Joiner → Tuple → Joint
joined_by joiners.In l = inside l
joined_by joiners.Is l = against (l ∷ []) []
joined_by joiners.Plus l = among (l ∷ [])

abbrev pub tuple_of : Filter → ℕ → List Term → Tuple
tuple_of f i es = record { filter = f; at = i; entries = es }

-- whether a namespace stands before what follows the statement
abbrev pub begun_after : Bool → Sentence → Bool
begun_after b (namespace_of x n) = true
begun_after b _ = b

-- the reading is that of the machine
abbrev pub Gives : {X : Type 0} → (X → List Sentence) → Result X ReadError → Read → Type 0
Gives view (Ok x) read = read ≡ Ok (view x)
Gives view (Err e) read = Fails e read

-- the first token begins a statement that wants a namespace before it
abbrev pub IsInner : Token → Type 0
IsInner (tokens.Word Constant) = ⊥
IsInner (tokens.Word Namespace) = ⊥
IsInner _ = Unit {0}

abbrev pub StartsInner : List Placed → Type 0
StartsInner [] = ⊥
StartsInner (t ∷ ts) = IsInner t.token

-- the error at its place
abbrev pub refusal_of : ℕ → List Placed → ReadError → SyntaxErr
refusal_of n ts errors.Memory = record { kind = NoMemory; at = 0 }
refusal_of n ts (errors.Fault f) = record { kind = f.kind; at = place n (drop (length ts - f.left) ts) }
