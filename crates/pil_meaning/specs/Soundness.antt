-- What a text keeps that breaks no rule, and that its meaning is sound then.
use Rattle.std.specs.Prelude.{ℕ, ◌<◌, ◌≤◌, ◌≡◌, ◌^◌, Bool, true, false, List, [], All, count_by}
use Rattle.pil_token.specs.declared.token.Mark.TheVariants.{Semicolon, OpenBrace, Comma}
use Rattle.pil_token.specs.declared.token.Token.{Token}
use Rattle.pil_token.specs.declared.token.Token.TheVariants as tokens
use Rattle.pil_token.specs.declared.token.Placed.{Placed}
use Rattle.pil_syntax.specs.Tree.{Term, num, col, constant, public, opp, group, ◌⊕◌, ◌⊖◌, ◌⊗◌, Sentence}
use Rattle.pil_syntax.specs.Spelling.{tokens_of}
use Rattle.pil_syntax.specs.Grammar.{limits, IsFile}
use Rattle.gold.specs.Field.{p}
use Rattle.pil_ast.specs.Term.{space_at}
use Rattle.pil_ast.specs.Sound.{IsAcyclic, IsSound}
use Rattle.pil_names.specs.Outline.{Outline, outline_of}
use Rattle.pil_names.specs.Wrongs.{unknown, bad_rows, mixed, wrong_widths, terms_of}
use Rattle.pil_meaning.specs.Meaning.{meaning}
use Rattle.pil_meaning.specs.Marks.{double}

-- each number of an expression is one of the field
abbrev pub IsInField : Term → Type 0
IsInField (num n) = n.value < p
IsInField (col r) = Unit {0}
IsInField (constant x) = Unit {0}
IsInField (public x) = Unit {0}
IsInField (opp a) = IsInField a
IsInField (group a) = IsInField a
IsInField (a ⊕ b) = IsInField a × IsInField b
IsInField (a ⊖ b) = IsInField a × IsInField b
IsInField (a ⊗ b) = IsInField a × IsInField b

-- each number of a text is one of the field
pub record HasNumbers (o : Outline) : Type 0 where
  pub constants : All (λ c. c.value.value < p) o.constants
  pub terms : All (λ h. All (λ d. All IsInField (terms_of d)) h.items) o.homes

-- the `;`, `,` and `{`
abbrev pub is_sign_of : Token → Bool
is_sign_of (tokens.Mark Semicolon) = true
is_sign_of (tokens.Mark Comma) = true
is_sign_of (tokens.Mark OpenBrace) = true
is_sign_of _ = false

abbrev pub is_sign : Placed → Bool
is_sign t = is_sign_of t.token

-- a text has at most 2^20 of them
abbrev pub IsShort : List Placed → Type 0
IsShort ts = count_by is_sign ts ≤ 2 ^ 20

-- no rule of names, sizes, widths and marks is broken, and no intermediate depends on itself
pub record IsUnbroken (o : Outline) : Type 0 where
  pub unknown : unknown o ≡ []
  pub bad_rows : bad_rows o ≡ []
  pub mixed : mixed o ≡ []
  pub wrong_widths : wrong_widths o ≡ []
  pub acyclic : (s : ℕ) → IsAcyclic (space_at (meaning o) s).items
  pub double : double o ≡ []

-- the meaning of a file that breaks no rule and is short is sound
abbrev pub UnbrokenIsSound : Type 0
UnbrokenIsSound = (ss : List Sentence) → IsFile limits false ss → HasNumbers (outline_of ss) → IsShort (tokens_of ss) → IsUnbroken (outline_of ss) → IsSound (meaning (outline_of ss))
