-- The syntax with each place at 0.
use Rattle.std.specs.Prelude.{◌≡◌, ℕ, List, map, option_map}
use Rattle.pil_token.specs.declared.token.Token.{Token}
use Rattle.pil_token.specs.declared.token.Placed.{Placed}
use Rattle.pil_syntax.specs.declared.tree.Ident.{Ident}
use Rattle.pil_syntax.specs.declared.tree.Number.{Number}
use Rattle.pil_syntax.specs.declared.tree.Reference.{Reference}
use Rattle.pil_syntax.specs.declared.tree.Declaration.{Declaration}
use Rattle.pil_syntax.specs.declared.tree.Size.{Size}
use Rattle.pil_syntax.specs.declared.tree.Size.TheVariants as sizes
use Rattle.pil_syntax.specs.Tree.{Term, num, col, constant, public, opp, group, ◌⊕◌, ◌⊖◌, ◌⊗◌, Filter, every, by_col, by_group, Tuple, Sentence, constant_is, namespace_of, columns, intermediate, public_is, identity, lookup, bus}
use Rattle.pil_syntax.specs.Grammar.{Limits}
use Rattle.pil_syntax.specs.Refusal.{Reads}

abbrev pub at_zero : ℕ → ℕ
at_zero i = 0

abbrev pub unplaced_ident : Ident → Ident
unplaced_ident x = record { name = x.name; at = 0 }

abbrev pub unplaced_number : Number → Number
unplaced_number n = record { value = n.value; at = 0 }

abbrev pub unplaced_reference : Reference → Reference
unplaced_reference r = record { space = option_map unplaced_ident r.space; name = unplaced_ident r.name; index = option_map unplaced_number r.index; next = option_map at_zero r.next }

abbrev pub unplaced : Term → Term
unplaced (num n) = num (unplaced_number n)
unplaced (col r) = col (unplaced_reference r)
unplaced (constant x) = constant (unplaced_ident x)
unplaced (public x) = public (unplaced_ident x)
unplaced (opp a) = opp (unplaced a)
unplaced (group a) = group (unplaced a)
unplaced (a ⊕ b) = unplaced a ⊕ unplaced b
unplaced (a ⊖ b) = unplaced a ⊖ unplaced b
unplaced (a ⊗ b) = unplaced a ⊗ unplaced b

abbrev pub unplaced_filter : Filter → Filter
unplaced_filter every = every
unplaced_filter (by_col r) = by_col (unplaced_reference r)
unplaced_filter (by_group e) = by_group (unplaced e)

abbrev pub unplaced_tuple : Tuple → Tuple
unplaced_tuple l = record { filter = unplaced_filter l.filter; at = 0; entries = map unplaced l.entries }

abbrev pub unplaced_declaration : Declaration → Declaration
unplaced_declaration d = record { name = unplaced_ident d.name; length = option_map unplaced_number d.length }

abbrev pub unplaced_size : Size → Size
unplaced_size (sizes.Number n) = sizes.Number (unplaced_number n)
unplaced_size (sizes.Constant x) = sizes.Constant (unplaced_ident x)

abbrev pub unplaced_sentence : Sentence → Sentence
unplaced_sentence (constant_is x n) = constant_is (unplaced_ident x) (unplaced_number n)
unplaced_sentence (namespace_of x n) = namespace_of (unplaced_ident x) (unplaced_size n)
unplaced_sentence (columns k ds) = columns k (map unplaced_declaration ds)
unplaced_sentence (intermediate x e) = intermediate (unplaced_ident x) (unplaced e)
unplaced_sentence (public_is x r n) = public_is (unplaced_ident x) (unplaced_reference r) (unplaced_number n)
unplaced_sentence (identity a b) = identity (unplaced a) (unplaced b)
unplaced_sentence (lookup a b) = lookup (unplaced_tuple a) (unplaced_tuple b)
unplaced_sentence (bus a b) = bus (map unplaced_tuple a) (map unplaced_tuple b)

abbrev pub token_of : Placed → Token
token_of t = t.token

-- what is read of tokens at other places differs in places alone
pub record IsPlaceless : Type 0 where
  pub moved : (m : Limits) (ts us : List Placed) (ss : List Sentence) → map token_of ts ≡ map token_of us → Reads m us ss → (qs : List Sentence) × Reads m ts qs × (map unplaced_sentence qs ≡ map unplaced_sentence ss)
