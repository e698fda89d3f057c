-- A demo program's file is bytes.
use Rattle.std.proofs.Common.{◌≡◌, ◌*◌, ◌/◌, ◌%◌, ◌^◌, ◌<◌, ◌++◌, ℕ, zero, suc, true, nat_lt, List, [], ◌∷◌, length, refl, arith}
use Rattle.std.specs.Int.{byte_at, bytes_low_first}
use Rattle.std.specs.List.{flat_map}
use Rattle.std.proofs.lemmas.Bool.{ltb-true}
use Rattle.std.proofs.lemmas.List.Elements.{All-append, All-nil}
use Rattle.std.proofs.lemmas.List.Sums.{AllPass-from_list_all}
use Rattle.rv_model.specs.Image.{AreBytes}
use Rattle.demo_program.specs.declared.kind.DemoKind.{DemoKind}
use Rattle.demo_program.specs.Tiny.{word, long, start, file_header, program_header, tiny}
use Rattle.demo_program.specs.Program.{instructions}
use Rattle.demo_program.specs.Demo.{demo_file, words_of}

byte : (i n : ℕ) → byte_at i n < 256
byte zero n = omega arith
byte (suc i) n = omega arith

more : (b : ℕ) (bs : List ℕ) → b < 256 → AreBytes bs → AreBytes (b ∷ bs)
more b bs first rest zero d below = first
more b bs first rest (suc k) d below = rest k d (omega arith)

octets : (i k n : ℕ) → AreBytes (bytes_low_first i k n)
octets i zero n = All-nil (λ b. b < 256)
octets i (suc k) n = more (byte_at i n) (bytes_low_first (suc i) k n) (byte i n) (octets (suc i) k n)

words_octets : (words : List ℕ) → AreBytes (flat_map word words)
words_octets [] = All-nil (λ b. b < 256)
words_octets (w ∷ words) = let P : ℕ → Type 0 = λ b. b < 256 in All-append P (word w) (flat_map word words) (octets 0 4 w) (words_octets words)

file_octets : AreBytes file_header
unfolding file_header
file_octets = λ k d below. ltb-true _ _ (AllPass-from_list_all (λ b. nat_lt b 256) file_header refl k d below)

program_octets : (size : ℕ) → AreBytes (program_header size)
unfolding program_header
program_octets size =
    let P : ℕ → Type 0 = λ b. b < 256 in
    All-append P (word 1 ++ word 5 ++ long 120 ++ long start ++ long start ++ long size ++ long size) (long 4)
    (All-append P (word 1 ++ word 5 ++ long 120 ++ long start ++ long start ++ long size) (long size)
    (All-append P (word 1 ++ word 5 ++ long 120 ++ long start ++ long start) (long size)
    (All-append P (word 1 ++ word 5 ++ long 120 ++ long start) (long start)
    (All-append P (word 1 ++ word 5 ++ long 120) (long start)
    (All-append P (word 1 ++ word 5) (long 120)
    (All-append P (word 1) (word 5)
    ((octets 0 4 1)) (octets 0 4 5)) (octets 0 8 120)) (octets 0 8 start)) (octets 0 8 start)) (octets 0 8 size)) (octets 0 8 size)) (octets 0 8 4)

pub tiny_octets : (words : List ℕ) → AreBytes (tiny words)
unfolding tiny
tiny_octets words =
    let P : ℕ → Type 0 = λ b. b < 256 in
    let size : ℕ = 4 * length words in
    All-append P (file_header ++ program_header size) (flat_map word words) (All-append P file_header (program_header size) file_octets (program_octets size)) (words_octets words)

pub demo_octets : (number : ℕ) (kind : DemoKind) (size : ℕ) → AreBytes (demo_file number kind size)
unfolding demo_file
demo_octets number kind size = tiny_octets (words_of (instructions number kind size))
