-- Which tokens are a file, and where others are refused: at the first token up to which they begin none.
use Rattle.std.specs.Prelude.{◌≡◌, ℕ, List, [], ◌∷◌, ◌++◌, map, false, ◌⊎◌}
use Rattle.pil_token.specs.declared.token.Placed.{Placed}
use Rattle.pil_syntax.specs.declared.tree.SyntaxErr.{SyntaxErr}
use Rattle.pil_syntax.specs.declared.tree.SyntaxErrKind.{SyntaxErrKind}
use Rattle.pil_syntax.specs.declared.tree.SyntaxErrKind.TheVariants.{Unexpected, TooDeep, NoMemory}
use Rattle.pil_syntax.specs.Tree.{Sentence}
use Rattle.pil_syntax.specs.Spelling.{seen, tokens_of}
use Rattle.pil_syntax.specs.Grammar.{Limits, IsFile}

-- the tokens spell these statements, which are a file within the limits
pub record Reads (m : Limits) (ts : List Placed) (ss : List Sentence) : Type 0 where
  pub spelled : map seen ts ≡ tokens_of ss
  pub file : IsFile m false ss

-- some file within the limits begins with these tokens
abbrev pub BeginsWithin : Limits → List Placed → Type 0
BeginsWithin m front = (more : List Placed) × (ss : List Sentence) × Reads m (front ++ more) ss

-- some file does, within whatever limits
abbrev pub Begins : List Placed → Type 0
Begins front = (m : Limits) × BeginsWithin m front

-- Of the tokens that are left the first is refused, or the end is.
abbrev pub IsRefused : Limits → List Placed → List Placed → SyntaxErrKind → Type 0
IsRefused m front [] Unexpected = (l : Limits) (ss : List Sentence) → Reads l front ss → ⊥
IsRefused m front [] TooDeep = ⊥
IsRefused m front (t ∷ rest) Unexpected = Begins (front ++ t ∷ []) → ⊥
IsRefused m front (t ∷ rest) TooDeep = Begins (front ++ t ∷ []) × (BeginsWithin m (front ++ t ∷ []) → ⊥)
IsRefused m front rest NoMemory = ⊥

-- the place of the first token, or the text's end
abbrev pub place : ℕ → List Placed → ℕ
place end [] = end
place end (t ∷ ts) = t.at

-- the tokens are no file within the limits, and this says why and where
pub record Refuses (m : Limits) (ts : List Placed) (end : ℕ) (e : SyntaxErr) : Type 0 where
  pub front : List Placed
  pub rest : List Placed
  pub whole : ts ≡ front ++ rest
  pub at : e.at ≡ place end rest
  pub begun : BeginsWithin m front
  pub refused : IsRefused m front rest e.kind

-- a fact about an answer, which says nothing where memory ran out
abbrev pub UnlessMemory : SyntaxErrKind → Type 0 → Type 0
UnlessMemory NoMemory P = Unit {0}
UnlessMemory Unexpected P = P
UnlessMemory TooDeep P = P

-- The tokens are one file within the limits, or are refused in one way, and not both.
pub record IsDecided (m : Limits) (ts : List Placed) (end : ℕ) : Type 0 where
  pub some : ((ss : List Sentence) × Reads m ts ss) ⊎ ((e : SyntaxErr) × Refuses m ts end e)
  pub one_file : (a b : List Sentence) → Reads m ts a → Reads m ts b → a ≡ b
  pub one_refusal : (a b : SyntaxErr) → Refuses m ts end a → Refuses m ts end b → a ≡ b
  pub not_both : (ss : List Sentence) (e : SyntaxErr) → Reads m ts ss → Refuses m ts end e → ⊥
