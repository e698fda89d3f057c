-- A file that is spelled within the limits is read.
use Rattle.std.proofs.Common.{◌≡◌, ℕ, List, [], ◌∷◌, ◌++◌, length, Bool, true, Option, Some, None, Ok, refl, ap, sym, subst, ◌∙◌, arith, append_assoc, append-nil}
use Rattle.pil_token.specs.declared.token.Word.TheVariants.{Constant, Namespace, Pol, Commit, Public, In, Is}
use Rattle.pil_token.specs.declared.token.Mark.TheVariants.{Equals, Semicolon, OpenParen, CloseParen, OpenBrace, CloseBrace, Comma, Plus, Minus, Star, Percent, Colon}
use Rattle.pil_token.specs.declared.token.Token.{Token}
use Rattle.pil_token.specs.declared.token.Token.TheVariants as tokens
use Rattle.pil_token.specs.declared.token.Placed.{Placed}
use Rattle.pil_syntax.specs.declared.tree.Declaration.{Declaration}
use Rattle.pil_syntax.specs.declared.tree.Ident.{Ident}
use Rattle.pil_syntax.specs.declared.tree.Number.{Number}
use Rattle.pil_syntax.specs.declared.tree.Reference.{Reference}
use Rattle.pil_syntax.specs.declared.tree.ColumnKind.{ColumnKind}
use Rattle.pil_syntax.specs.declared.tree.ColumnKind.TheVariants as kinds
use Rattle.pil_syntax.specs.declared.tree.Size.TheVariants as sizes
use Rattle.pil_syntax.specs.Tree.{Term, num, col, constant, public, opp, group, ◌⊕◌, ◌⊖◌, ◌⊗◌, Filter, every, by_col, by_group, Tuple, Sentence, constant_is, namespace_of, columns, intermediate, public_is, identity, lookup, bus}
use Rattle.pil_syntax.specs.Spelling.{mark, marked, word, name, numeral, ref_tokens, index_tokens, term_tokens, filter_tokens, joined, tuple_tokens, declaration_tokens, sentence_tokens, tokens_of}
use Rattle.pil_syntax.specs.Grammar.{Limits, IsWhole, IsFilter, EachOf, IsTuple, IsSentence, IsFile}
use Rattle.pil_syntax.specs.State.{Joint, opening, among, inside, against, leftmost, right, defining, picked, entry, first, plain, in_fact, in_filter, in_public, between, columns_word, columns_name, public_equals, want, list_wanted, list_brace, first_list, listed, entering}
use Rattle.pil_syntax.specs.Machine.{Move, line_move, opened_move, between_move, has_namespace, onward, run, declaration, tuple_of, begun_after}
use Rattle.pil_syntax.proofs.Complete.{first_name, behind_first, first_named, reference_goes, nest_goes, complete, whole_goes}

-- the tokens of a list from its `{` on
abbrev pub body_tokens : ℕ → List Term → List Placed → List Placed
body_tokens i es vs = marked OpenBrace i ∷ ((joined Comma term_tokens es ++ mark CloseBrace ∷ []) ++ vs)

tuple_parts : (l : Tuple) (vs : List Placed) → tuple_tokens l ++ vs ≡ filter_tokens l.filter ++ body_tokens l.at l.entries vs
tuple_parts l vs = append_assoc (filter_tokens l.filter) (marked OpenBrace l.at ∷ (joined Comma term_tokens l.entries ++ mark CloseBrace ∷ [])) vs

-- the token begins no constant and no namespace
abbrev IsLine : Token → Type 0
IsLine (tokens.Word Constant) = ⊥
IsLine (tokens.Word Namespace) = ⊥
IsLine _ = Unit {0}

between_line : (b : Bool) (t : Token) (i : ℕ) → b ≡ true → IsLine t → between_move b t i ≡ line_move t i
between_line b (tokens.Word Constant) i e l = absurd l
between_line b (tokens.Word Namespace) i e l = absurd l
between_line b t i e l = ap (λ (c : Bool). opened_move c t i) e

-- the statement may stand there: it is a constant or a namespace, or a namespace stands before it
abbrev pub Needed : Bool → Sentence → Type 0
Needed b (constant_is x n) = Unit {0}
Needed b (namespace_of x n) = Unit {0}
Needed b q = b ≡ true

module _ (m : Limits) (d : List Sentence) where
  pub entries_go : (j : Joint) (f : Filter) (i : ℕ) (es xs : List Term) (vs : List Placed) → EachOf (IsWhole m) xs → run m d (entering j f i es) ((joined Comma term_tokens xs ++ mark CloseBrace ∷ []) ++ vs) ≡ run m d (listed j (tuple_of f i (es ++ xs))) vs
  entries_go j f i es [] vs h = absurd h
  entries_go j f i es (x ∷ []) vs h =
      ap (λ (us : List Placed). run m d (entering j f i es) us) (append_assoc (term_tokens x) (mark CloseBrace ∷ []) vs)
      ∙ whole_goes m d x (entry j f i es) (mark CloseBrace ∷ vs) h tt tt (omega (arith, h.nesting))
  entries_go j f i es (x ∷ y ∷ ys) vs h =
      let rest : List Placed = (joined Comma term_tokens (y ∷ ys) ++ mark CloseBrace ∷ []) ++ vs in
      ap (λ (us : List Placed). run m d (entering j f i es) us) (ap (λ (us : List Placed). us ++ vs) (append_assoc (term_tokens x) (mark Comma ∷ joined Comma term_tokens (y ∷ ys)) (mark CloseBrace ∷ [])) ∙ append_assoc (term_tokens x) (mark Comma ∷ (joined Comma term_tokens (y ∷ ys) ++ mark CloseBrace ∷ [])) vs)
      ∙ (whole_goes m d x (entry j f i es) (mark Comma ∷ rest) h.0 tt tt (omega (arith, h.0.nesting))
      ∙ (entries_go j f i (es ++ x ∷ []) (y ∷ ys) vs h.1
      ∙ ap (λ (us : List Term). run m d (listed j (tuple_of f i us)) vs) (append_assoc es (x ∷ []) (y ∷ ys))))

  -- a list behind its selector
  pub body_goes : (j : Joint) (f : Filter) (i : ℕ) (es : List Term) (vs : List Placed) → EachOf (IsWhole m) es → run m d (list_brace j f) (body_tokens i es vs) ≡ run m d (listed j (tuple_of f i es)) vs
  body_goes j f i es vs h = entries_go j f i [] es vs h

  pub filter_goes : (j : Joint) (f : Filter) (i : ℕ) (es : List Term) (vs : List Placed) → IsFilter m f → EachOf (IsWhole m) es → run m d (list_wanted j) (filter_tokens f ++ body_tokens i es vs) ≡ run m d (listed j (tuple_of f i es)) vs
  filter_goes j every i es vs g h = entries_go j every i [] es vs h
  filter_goes j (by_col r) i es vs g h =
      ap (λ (us : List Placed). run m d (list_wanted j) (us ++ body_tokens i es vs)) (first_named r)
      ∙ (reference_goes m d (in_filter j) r (body_tokens i es vs) tt
      ∙ body_goes j (by_col r) i es vs h)
  filter_goes j (by_group e) i es vs g h =
      nest_goes m d 0 (want (plain (first (picked j))) 0) ((term_tokens e ++ mark CloseParen ∷ []) ++ body_tokens i es vs) _ (omega (arith, g.nesting))
      ∙ (ap (λ (us : List Placed). run m d (want (plain (first (picked j))) 0) us) (append_assoc (term_tokens e) (mark CloseParen ∷ []) (body_tokens i es vs))
      ∙ ((complete m d e).expr g.level (picked j) 0 (mark CloseParen ∷ body_tokens i es vs) tt tt (omega (arith, g.nesting)) (omega (arith, g.operators))
      ∙ body_goes j (by_group e) i es vs h))

  pub list_goes : (j : Joint) (l : Tuple) (vs : List Placed) → IsTuple m l → run m d (list_wanted j) (tuple_tokens l ++ vs) ≡ run m d (listed j l) vs
  list_goes j l vs h = ap (λ (us : List Placed). run m d (list_wanted j) us) (tuple_parts l vs) ∙ filter_goes j l.filter l.at l.entries vs h.filter h.entries

  pub line_step : (t : Placed) (ts : List Placed) → has_namespace d ≡ true → IsLine t.token → run m d between (t ∷ ts) ≡ onward m (line_move t.token t.at) (λ s. run m d s ts) (λ q. run m (d ++ q ∷ []) between ts) (length (t ∷ ts))
  line_step t ts e l = ap (λ (v : Move). onward m v (λ s. run m d s ts) (λ q. run m (d ++ q ∷ []) between ts) (length (t ∷ ts))) (between_line (has_namespace d) t.token t.at e l)

  -- an expression at a line's start
  abbrev Starts : List Placed → Type 0
  Starts us = run m d between us ≡ run m d (want (plain (first leftmost)) 0) us

  pub term_starts : (e : Term) (vs : List Placed) → has_namespace d ≡ true → Starts (term_tokens e ++ vs)
  term_starts (num n) vs b = line_step (numeral n) vs b tt
  term_starts (col r) vs b = subst (λ (us : List Placed). Starts (us ++ vs)) (sym (first_named r)) (line_step (name (first_name r.space r.name)) (behind_first r ++ vs) b tt)
  term_starts (constant x) vs b = line_step (mark Percent) (name x ∷ vs) b tt
  term_starts (public x) vs b = line_step (mark Colon) (name x ∷ vs) b tt
  term_starts (opp a) vs b = line_step (mark Minus) (term_tokens a ++ vs) b tt
  term_starts (group a) vs b = line_step (mark OpenParen) ((term_tokens a ++ mark CloseParen ∷ []) ++ vs) b tt
  term_starts (a ⊕ c) vs b = subst Starts (sym (append_assoc (term_tokens a) (mark Plus ∷ term_tokens c) vs)) (term_starts a (mark Plus ∷ (term_tokens c ++ vs)) b)
  term_starts (a ⊖ c) vs b = subst Starts (sym (append_assoc (term_tokens a) (mark Minus ∷ term_tokens c) vs)) (term_starts a (mark Minus ∷ (term_tokens c ++ vs)) b)
  term_starts (a ⊗ c) vs b = subst Starts (sym (append_assoc (term_tokens a) (mark Star ∷ term_tokens c) vs)) (term_starts a (mark Star ∷ (term_tokens c ++ vs)) b)

  pub side_goes : (e : Term) (vs : List Placed) → has_namespace d ≡ true → IsWhole m e → run m d between (term_tokens e ++ mark Equals ∷ vs) ≡ run m d (want (plain (first (right e))) 0) vs
  side_goes e vs b h = term_starts e (mark Equals ∷ vs) b ∙ whole_goes m d e leftmost (mark Equals ∷ vs) h tt tt (omega (arith, h.nesting))

  -- a line's first list
  pub opening_filter : (f : Filter) (i : ℕ) (es : List Term) (vs : List Placed) → has_namespace d ≡ true → IsFilter m f → EachOf (IsWhole m) es → run m d between (filter_tokens f ++ body_tokens i es vs) ≡ run m d (first_list (tuple_of f i es)) vs
  opening_filter every i es vs b g h = line_step (marked OpenBrace i) ((joined Comma term_tokens es ++ mark CloseBrace ∷ []) ++ vs) b tt ∙ entries_go opening every i [] es vs h
  opening_filter (by_col r) i es vs b g h =
      term_starts (col r) (body_tokens i es vs) b
      ∙ (ap (λ (us : List Placed). run m d (want (plain (first leftmost)) 0) (us ++ body_tokens i es vs)) (first_named r)
      ∙ (reference_goes m d (in_fact (plain (first leftmost)) 0) r (body_tokens i es vs) tt
      ∙ entries_go opening (by_col r) i [] es vs h))
  opening_filter (by_group e) i es vs b g h =
      term_starts (group e) (body_tokens i es vs) b
      ∙ (whole_goes m d (group e) leftmost (body_tokens i es vs) g tt tt (omega (arith, g.nesting))
      ∙ entries_go opening (by_group e) i [] es vs h)

  pub opening_goes : (l : Tuple) (vs : List Placed) → has_namespace d ≡ true → IsTuple m l → run m d between (tuple_tokens l ++ vs) ≡ run m d (first_list l) vs
  opening_goes l vs b h = ap (λ (us : List Placed). run m d between us) (tuple_parts l vs) ∙ opening_filter l.filter l.at l.entries vs b h.filter h.entries

  -- the lists behind `is`, or behind a `+` on the left
  pub right_go : (ls rs xs : List Tuple) (vs : List Placed) → EachOf (IsTuple m) xs → run m d (list_wanted (against ls rs)) (joined Plus tuple_tokens xs ++ mark Semicolon ∷ vs) ≡ run m (d ++ bus ls (rs ++ xs) ∷ []) between vs
  right_go ls rs [] vs h = absurd h
  right_go ls rs (x ∷ []) vs h = list_goes (against ls rs) x (mark Semicolon ∷ vs) h
  right_go ls rs (x ∷ y ∷ ys) vs h =
      ap (λ (us : List Placed). run m d (list_wanted (against ls rs)) us) (append_assoc (tuple_tokens x) (mark Plus ∷ joined Plus tuple_tokens (y ∷ ys)) (mark Semicolon ∷ vs))
      ∙ (list_goes (against ls rs) x (mark Plus ∷ (joined Plus tuple_tokens (y ∷ ys) ++ mark Semicolon ∷ vs)) h.0
      ∙ (right_go ls (rs ++ x ∷ []) (y ∷ ys) vs h.1
      ∙ ap (λ (us : List Tuple). run m (d ++ bus ls us ∷ []) between vs) (append_assoc rs (x ∷ []) (y ∷ ys))))

  pub left_go : (ls xs : List Tuple) (vs : List Placed) → EachOf (IsTuple m) xs → run m d (list_wanted (among ls)) (joined Plus tuple_tokens xs ++ word Is ∷ vs) ≡ run m d (list_wanted (against (ls ++ xs) [])) vs
  left_go ls [] vs h = absurd h
  left_go ls (x ∷ []) vs h = list_goes (among ls) x (word Is ∷ vs) h
  left_go ls (x ∷ y ∷ ys) vs h =
      ap (λ (us : List Placed). run m d (list_wanted (among ls)) us) (append_assoc (tuple_tokens x) (mark Plus ∷ joined Plus tuple_tokens (y ∷ ys)) (word Is ∷ vs))
      ∙ (list_goes (among ls) x (mark Plus ∷ (joined Plus tuple_tokens (y ∷ ys) ++ word Is ∷ vs)) h.0
      ∙ (left_go (ls ++ x ∷ []) (y ∷ ys) vs h.1
      ∙ ap (λ (us : List Tuple). run m d (list_wanted (against us [])) vs) (append_assoc ls (x ∷ []) (y ∷ ys))))

  pub bus_goes : (xs ys : List Tuple) (vs : List Placed) → has_namespace d ≡ true → EachOf (IsTuple m) xs → EachOf (IsTuple m) ys → run m d between ((joined Plus tuple_tokens xs ++ word Is ∷ joined Plus tuple_tokens ys) ++ mark Semicolon ∷ vs) ≡ run m (d ++ bus xs ys ∷ []) between vs
  bus_goes [] ys vs b h k = absurd h
  bus_goes (x ∷ []) ys vs b h k =
      ap (λ (us : List Placed). run m d between us) (append_assoc (tuple_tokens x) (word Is ∷ joined Plus tuple_tokens ys) (mark Semicolon ∷ vs))
      ∙ (opening_goes x (word Is ∷ (joined Plus tuple_tokens ys ++ mark Semicolon ∷ vs)) b h
      ∙ right_go (x ∷ []) [] ys vs k)
  bus_goes (x ∷ z ∷ zs) ys vs b h k =
      let rest : List Placed = joined Plus tuple_tokens ys ++ mark Semicolon ∷ vs in
      ap (λ (us : List Placed). run m d between us) (append_assoc (tuple_tokens x ++ (mark Plus ∷ joined Plus tuple_tokens (z ∷ zs))) (word Is ∷ joined Plus tuple_tokens ys) (mark Semicolon ∷ vs) ∙ append_assoc (tuple_tokens x) (mark Plus ∷ joined Plus tuple_tokens (z ∷ zs)) (word Is ∷ rest))
      ∙ (opening_goes x (mark Plus ∷ (joined Plus tuple_tokens (z ∷ zs) ++ word Is ∷ rest)) b h.0
      ∙ (left_go (x ∷ []) (z ∷ zs) rest h.1
      ∙ right_go (x ∷ z ∷ zs) [] ys vs k))

  declared_comma : (k : ColumnKind) (ds : List Declaration) (x : Ident) (n : Option Number) (vs : List Placed) → run m d (columns_name k ds x) (index_tokens n ++ mark Comma ∷ vs) ≡ run m d (columns_word k (ds ++ declaration x n ∷ [])) vs
  declared_comma k ds x None vs = refl
  declared_comma k ds x (Some n) vs = refl

  declared_end : (k : ColumnKind) (ds : List Declaration) (x : Ident) (n : Option Number) (vs : List Placed) → run m d (columns_name k ds x) (index_tokens n ++ mark Semicolon ∷ vs) ≡ run m (d ++ columns k (ds ++ declaration x n ∷ []) ∷ []) between vs
  declared_end k ds x None vs = refl
  declared_end k ds x (Some n) vs = refl

  pub declarations_go : (k : ColumnKind) (ds xs : List Declaration) (vs : List Placed) → EachOf (λ x. Unit {0}) xs → run m d (columns_word k ds) (joined Comma declaration_tokens xs ++ mark Semicolon ∷ vs) ≡ run m (d ++ columns k (ds ++ xs) ∷ []) between vs
  declarations_go k ds [] vs h = absurd h
  declarations_go k ds (x ∷ []) vs h = declared_end k ds x.name x.length vs
  declarations_go k ds (x ∷ y ∷ ys) vs h =
      ap (λ (us : List Placed). run m d (columns_word k ds) us) (append_assoc (declaration_tokens x) (mark Comma ∷ joined Comma declaration_tokens (y ∷ ys)) (mark Semicolon ∷ vs))
      ∙ (declared_comma k ds x.name x.length (joined Comma declaration_tokens (y ∷ ys) ++ mark Semicolon ∷ vs)
      ∙ (declarations_go k (ds ++ x ∷ []) (y ∷ ys) vs h.1
      ∙ ap (λ (us : List Declaration). run m (d ++ columns k us ∷ []) between vs) (append_assoc ds (x ∷ []) (y ∷ ys))))

  public_goes : (x : Ident) (r : Reference) (n : Number) (vs : List Placed) → run m d (public_equals x) ((ref_tokens r ++ mark OpenParen ∷ numeral n ∷ mark CloseParen ∷ []) ++ mark Semicolon ∷ vs) ≡ run m (d ++ public_is x r n ∷ []) between vs
  public_goes x r n vs =
      let rest : List Placed = mark OpenParen ∷ numeral n ∷ mark CloseParen ∷ mark Semicolon ∷ vs in
      ap (λ (us : List Placed). run m d (public_equals x) us) (append_assoc (ref_tokens r) (mark OpenParen ∷ numeral n ∷ mark CloseParen ∷ []) (mark Semicolon ∷ vs) ∙ ap (λ (us : List Placed). us ++ rest) (first_named r))
      ∙ reference_goes m d (in_public x) r rest tt

  pub sentence_goes : (q : Sentence) (vs : List Placed) → Needed (has_namespace d) q → IsSentence m q → run m d between (sentence_tokens q ++ mark Semicolon ∷ vs) ≡ run m (d ++ q ∷ []) between vs
  sentence_goes (constant_is x n) vs b h = refl
  sentence_goes (namespace_of x (sizes.Number n)) vs b h = refl
  sentence_goes (namespace_of x (sizes.Constant y)) vs b h = refl
  sentence_goes (columns kinds.Constant ds) vs b h = line_step (word Pol) (word Constant ∷ (joined Comma declaration_tokens ds ++ mark Semicolon ∷ vs)) b tt ∙ declarations_go kinds.Constant [] ds vs h
  sentence_goes (columns kinds.Commit ds) vs b h = line_step (word Pol) (word Commit ∷ (joined Comma declaration_tokens ds ++ mark Semicolon ∷ vs)) b tt ∙ declarations_go kinds.Commit [] ds vs h
  sentence_goes (intermediate x e) vs b h =
      line_step (word Pol) (name x ∷ mark Equals ∷ (term_tokens e ++ mark Semicolon ∷ vs)) b tt
      ∙ whole_goes m d e (defining x) (mark Semicolon ∷ vs) h tt tt (omega (arith, h.nesting))
  sentence_goes (public_is x r n) vs b h =
      line_step (word Public) (name x ∷ mark Equals ∷ ((ref_tokens r ++ mark OpenParen ∷ numeral n ∷ mark CloseParen ∷ []) ++ mark Semicolon ∷ vs)) b tt
      ∙ public_goes x r n vs
  sentence_goes (identity e f) vs b h =
      ap (λ (us : List Placed). run m d between us) (append_assoc (term_tokens e) (mark Equals ∷ term_tokens f) (mark Semicolon ∷ vs))
      ∙ (side_goes e (term_tokens f ++ mark Semicolon ∷ vs) b h.0
      ∙ whole_goes m d f (right e) (mark Semicolon ∷ vs) h.1 tt tt (omega (arith, h.1.nesting)))
  sentence_goes (lookup x y) vs b h =
      ap (λ (us : List Placed). run m d between us) (append_assoc (tuple_tokens x) (word In ∷ tuple_tokens y) (mark Semicolon ∷ vs))
      ∙ (opening_goes x (word In ∷ (tuple_tokens y ++ mark Semicolon ∷ vs)) b h.0
      ∙ list_goes (inside x) y (mark Semicolon ∷ vs) h.1)
  sentence_goes (bus xs ys) vs b h = bus_goes xs ys vs b h.0 h.1

pub has_after : (d : List Sentence) (q : Sentence) → has_namespace (d ++ q ∷ []) ≡ begun_after (has_namespace d) q
has_after [] (constant_is x n) = refl
has_after [] (namespace_of x n) = refl
has_after [] (columns k ds) = refl
has_after [] (intermediate x e) = refl
has_after [] (public_is x r n) = refl
has_after [] (identity e f) = refl
has_after [] (lookup x y) = refl
has_after [] (bus xs ys) = refl
has_after (namespace_of x n ∷ d) q = sym (after_true q)
  where
    after_true : (q : Sentence) → begun_after true q ≡ true
    after_true (namespace_of x n) = refl
    after_true _ = refl
has_after (constant_is x n ∷ d) q = has_after d q
has_after (columns k ds ∷ d) q = has_after d q
has_after (intermediate x e ∷ d) q = has_after d q
has_after (public_is x r n ∷ d) q = has_after d q
has_after (identity e f ∷ d) q = has_after d q
has_after (lookup x y ∷ d) q = has_after d q
has_after (bus xs ys ∷ d) q = has_after d q

pub file_parts : (m : Limits) (b : Bool) (q : Sentence) (ss : List Sentence) → IsFile m b (q ∷ ss) → Needed b q × IsSentence m q × IsFile m (begun_after b q) ss
file_parts m b (constant_is x n) ss h = (tt, tt, h)
file_parts m b (namespace_of x n) ss h = (tt, tt, h)
file_parts m b (columns k ds) ss h = h
file_parts m b (intermediate x e) ss h = h
file_parts m b (public_is x r n) ss h = h
file_parts m b (identity e f) ss h = h
file_parts m b (lookup x y) ss h = h
file_parts m b (bus xs ys) ss h = h

pub file_goes : (m : Limits) (ss d : List Sentence) → IsFile m (has_namespace d) ss → run m d between (tokens_of ss) ≡ Ok (d ++ ss)
file_goes m [] d h = ap Ok (sym (append-nil d))
file_goes m (q ∷ ss) d h =
    let p : Needed (has_namespace d) q × IsSentence m q × IsFile m (begun_after (has_namespace d) q) ss = file_parts m (has_namespace d) q ss h in
    sentence_goes m d q (tokens_of ss) p.0 p.1
    ∙ (file_goes m ss (d ++ q ∷ []) (subst (λ (b : Bool). IsFile m b ss) (sym (has_after d q)) p.2)
    ∙ ap Ok (append_assoc d (q ∷ []) ss))
