-- Bytes that are names, reserved words or digits.
use Rattle.std.specs.Prelude.{◌==◌, ℕ, List, [], ◌∷◌, Bool, ◌||◌, IsTrue, IsNone, Option, Some, None, codes, if◌then◌else◌}
use Rattle.std.specs.Char.{is_ascii_alphabetic, is_ascii_alphanumeric}
use Rattle.std.specs.List.{list_all}
use Rattle.std.specs.Str.{bytes_eq}
use Rattle.pil_token.specs.declared.token.Word.{Word}
use Rattle.pil_token.specs.declared.token.Word.TheVariants.{Constant, Namespace, Pol, Commit, Public, In, Is}
use Rattle.pil_token.specs.declared.token.Mark.{Mark}
use Rattle.pil_token.specs.declared.token.Mark.TheVariants.{Percent, Equals, Semicolon, OpenParen, CloseParen, OpenBrace, CloseBrace, OpenBracket, CloseBracket, Comma, Dot, Prime, Plus, Minus, Star, Colon}

-- a name begins with a letter or `_`
abbrev pub begins_name : ℕ → Bool
begins_name b = is_ascii_alphabetic b || b == 95

-- and goes on with letters, digits and `_`
abbrev pub continues_name : ℕ → Bool
continues_name b = is_ascii_alphanumeric b || b == 95

-- the bytes of a name or a reserved word
abbrev pub IsWordLike : List ℕ → Type 0
IsWordLike [] = ⊥
IsWordLike (b ∷ bs) = IsTrue (begins_name b) × IsTrue (list_all continues_name bs)

-- how a reserved word is spelled
abbrev pub word_bytes : Word → List ℕ
word_bytes Constant = codes "constant"
word_bytes Namespace = codes "namespace"
word_bytes Pol = codes "pol"
word_bytes Commit = codes "commit"
word_bytes Public = codes "public"
word_bytes In = codes "in"
word_bytes Is = codes "is"

-- the reserved word of this spelling
unfoldable pub word_of : List ℕ → Option Word
word_of bs =
    if bytes_eq bs (codes "constant") then Some Constant
    else if bytes_eq bs (codes "namespace") then Some Namespace
    else if bytes_eq bs (codes "pol") then Some Pol
    else if bytes_eq bs (codes "commit") then Some Commit
    else if bytes_eq bs (codes "public") then Some Public
    else if bytes_eq bs (codes "in") then Some In
    else if bytes_eq bs (codes "is") then Some Is
    else None

-- a name is no reserved word
abbrev pub IsName : List ℕ → Type 0
IsName bs = IsWordLike bs × IsNone (word_of bs)

-- how a mark is spelled: % = ; ( ) { } [ ] , . ' + - * :
abbrev pub mark_byte : Mark → ℕ
mark_byte Percent = 37
mark_byte Equals = 61
mark_byte Semicolon = 59
mark_byte OpenParen = 40
mark_byte CloseParen = 41
mark_byte OpenBrace = 123
mark_byte CloseBrace = 125
mark_byte OpenBracket = 91
mark_byte CloseBracket = 93
mark_byte Comma = 44
mark_byte Dot = 46
mark_byte Prime = 39
mark_byte Plus = 43
mark_byte Minus = 45
mark_byte Star = 42
mark_byte Colon = 58

-- the mark of this spelling
unfoldable pub mark_of : ℕ → Option Mark
mark_of b =
    if b == 37 then Some Percent
    else if b == 61 then Some Equals
    else if b == 59 then Some Semicolon
    else if b == 40 then Some OpenParen
    else if b == 41 then Some CloseParen
    else if b == 123 then Some OpenBrace
    else if b == 125 then Some CloseBrace
    else if b == 91 then Some OpenBracket
    else if b == 93 then Some CloseBracket
    else if b == 44 then Some Comma
    else if b == 46 then Some Dot
    else if b == 39 then Some Prime
    else if b == 43 then Some Plus
    else if b == 45 then Some Minus
    else if b == 42 then Some Star
    else if b == 58 then Some Colon
    else None
