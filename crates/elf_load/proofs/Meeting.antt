-- Extents in order of address: the least header of one that meets another.
use Rattle.std.proofs.Common.{◌≡◌, ℕ, ◌+◌, ◌<◌, ◌≤◌, ◌⊎◌, inl, inr, List, [], ◌∷◌, ◌++◌, true, false, length, get_or, Contains, refl, sym, ◌∙◌, ap, subst, arith, below_more}
use Rattle.std.specs.List.Sorted.{IsNonDecreasingBy, IsPermutation}
use Rattle.std.proofs.lemmas.List.{get_or_default}
use Rattle.std.proofs.lemmas.List.Elements.{Contains-push, Contains-append_left}
use Rattle.std.proofs.lemmas.List.Sorted.{Contains-permutation}
use Rattle.elf_load.specs.Header.{has_memory}
use Rattle.elf_load.specs.Layout.{overlaps, NoneOverlaps}
use Rattle.elf_load.specs.Extents.{extent, HasExtents, Meets, MeetsNext, NoneMeets}
use Rattle.elf_load.specs.declared.header.ProgramHeader.{ProgramHeader}
use Rattle.elf_load.specs.declared.overlap.Extent.{Extent}
use Rattle.elf_load.proofs.Headers.{overlap_at}
use Rattle.elf_load.proofs.Apart.{covered_memory}

-- the extents of one more header
pub one_more : (hs : List ProgramHeader) (n : ℕ) (h : ProgramHeader) (es more : List Extent) → n < length hs → h ≡ get_or hs n h → more ≡ es ++ extent h n ∷ [] → HasExtents hs n es → HasExtents hs (n + 1) more
one_more hs n h es more within at pushed has i d less memory =
    let cases : (i < n) ⊎ (i ≡ n) = grind arith in
    elim cases [
      | inl old ↦ subst (λ xs. Contains xs (extent (get_or hs i d) i)) (sym pushed) (Contains-append_left es (extent h n ∷ []) (extent (get_or hs i d) i) (has i d old memory))
      | inr last ↦
          let same : get_or hs i d ≡ h = ap (λ k. get_or hs k d) last ∙ get_or_default hs n d h within ∙ sym at in
          subst (λ xs. Contains xs (extent (get_or hs i d) i)) (sym pushed)
          (subst (λ k. Contains (es ++ extent h n ∷ []) (extent (get_or hs i d) k)) (sym last)
          (subst (λ g. Contains (es ++ extent h n ∷ []) (extent g n)) (sym same) (Contains-push es (extent h n))))
    ]

-- a header without memory has none
pub none_more : (hs : List ProgramHeader) (n : ℕ) (h : ProgramHeader) (es : List Extent) → n < length hs → h ≡ get_or hs n h → has_memory h ≡ false → HasExtents hs n es → HasExtents hs (n + 1) es
none_more hs n h es within at lacks has i d less memory =
    let cases : (i < n) ⊎ (i ≡ n) = grind arith in
    elim cases [
      | inl old ↦ has i d old memory
      | inr last ↦
          let same : get_or hs i d ≡ h = ap (λ k. get_or hs k d) last ∙ get_or_default hs n d h within ∙ sym at in
          let yes : has_memory h ≡ true = subst (λ g. has_memory g ≡ true) same memory in
          absurd (cc)
    ]

pub has_sorted : (hs : List ProgramHeader) (n : ℕ) (es sorted : List Extent) → IsPermutation es sorted → HasExtents hs n es → HasExtents hs n sorted
has_sorted hs n es sorted p has i d less memory = Contains-permutation es sorted (extent (get_or hs i d) i) p (has i d less memory)

-- how far the first k extents were looked at
pub record Swept (es : List Extent) (k first reach : ℕ) : Type 0 where
  pub ends : (m : ℕ) → m < k → (d : Extent) → (get_or es m d).end ≤ reach
  pub before : (m : ℕ) → m < k → (a : ℕ) (d : Extent) → a < m → Meets (get_or es a d) (get_or es m d) → first ≤ (get_or es m d).index
  pub next : (m : ℕ) → m < k → (d : Extent) → MeetsNext es m → first ≤ (get_or es m d).index

pub swept_none : (es : List Extent) (first reach : ℕ) → Swept es 0 first reach
swept_none es first reach = record {
  ends = λ m less. absurd (omega arith);
  before = λ m less. absurd (omega arith);
  next = λ m less. absurd (omega arith);
}

pub swept_more : (es : List Extent) (k first reach least far : ℕ) (e : Extent) → k < length es → e ≡ get_or es k e → least ≤ first → reach ≤ far → e.end ≤ far → (e.start < reach → least ≤ e.index) → (MeetsNext es k → least ≤ e.index) → Swept es k first reach → Swept es (k + 1) least far
swept_more es k first reach least far e within at lower wider ends meets meets_next s =
    let here : (d : Extent) → e ≡ get_or es k d = λ d. at ∙ get_or_default es k e d within in
    record {
      ends = below_more _ _ (λ m less d. let old : (get_or es m d).end ≤ reach = s.ends m less d in omega arith) (λ d. subst (λ x. x.end ≤ far) (here d) ends);
      before = below_more _ _ (λ m less a d b q. let old : first ≤ (get_or es m d).index = s.before m less a d b q in omega arith)
          (λ a d b q. let old : (get_or es a d).end ≤ reach = s.ends a b d in let near : (get_or es k d).start < (get_or es a d).end = q in subst (λ x. least ≤ x.index) (here d) (meets (subst (λ x. x.start < reach) (sym (here d)) (omega arith))));
      next = below_more _ _ (λ m less d q. let old : first ≤ (get_or es m d).index = s.next m less d q in omega arith) (λ d q. subst (λ x. least ≤ x.index) (here d) (meets_next q));
    }

-- all were looked at
pub swept_all : (es : List Extent) (k first reach : ℕ) → IsNonDecreasingBy (λ e. e.start) es → length es ≤ k → Swept es k first reach → NoneMeets es first
swept_all es k first reach up all s a b d less within meets =
    let first_in : a < length es = omega arith in
    let next_meets : (e : Extent) → Meets (get_or es a e) (get_or es (a + 1) e) = λ e.
    let same_a : get_or es a d ≡ get_or es a e = get_or_default es a d e first_in in
    let same_b : get_or es b d ≡ get_or es b e = get_or_default es b d e within in
    let rises : (get_or es (a + 1) e).start ≤ (get_or es b e).start = up (a + 1) b e (omega arith) within in
    let met : (get_or es b e).start < (get_or es a e).end = subst (λ x. (get_or es b e).start < x.end) same_a (subst (λ x. x.start < (get_or es a d).end) same_b meets) in
    let done : (get_or es (a + 1) e).start < (get_or es a e).end = omega arith in
    done in
    (s.next a (omega arith) d (omega arith, next_meets), s.before b (omega arith) a d less meets)

-- the extents of two headers that meet are of headers from the n-th on
meeting : (es : List Extent) (n k l : ℕ) (e f : Extent) → NoneMeets es n → k < length es → l < length es → get_or es k e ≡ e → get_or es l f ≡ f → f.start < e.end → e.start < f.end → e.index < f.index → n ≤ e.index
meeting es n k l e f none p q at_e at_f meets back apart =
    let f_at_e : get_or es l e ≡ f = get_or_default es l e f q ∙ at_f in
    let e_at_f : get_or es k f ≡ e = get_or_default es k f e p ∙ at_e in
    let cases : (k < l) ⊎ (l < k) ⊎ (k ≡ l) = grind arith in
    elim cases [
      | inl less ↦ subst (λ x. n ≤ x.index) at_e (none k l e less q (subst (λ x. Meets x (get_or es l e)) (sym at_e) (subst (λ y. Meets e y) (sym f_at_e) meets))).0
      | inr other ↦ elim other [
        | inl less ↦ subst (λ x. n ≤ x.index) e_at_f (none l k f less p (subst (λ x. Meets x (get_or es k f)) (sym at_f) (subst (λ y. Meets f y) (sym e_at_f) back))).1
        | inr same ↦
            let one : e ≡ f = sym at_e ∙ ap (λ m. get_or es m e) same ∙ f_at_e in
            let index : e.index ≡ f.index = ap (λ x. x.index) one in
            absurd (omega arith)
      ]
    ]

-- no header before those whose extents meet has a partner
pub none_before : (hs : List ProgramHeader) (es : List Extent) (n : ℕ) → HasExtents hs (length hs) es → NoneMeets es n → NoneOverlaps hs n
none_before hs es n has none i below j d less within =
    let g = get_or hs i d in
    let h = get_or hs j d in
    elim (overlaps g h) as (λ b. overlaps g h ≡ b → b ≡ false) [
      | true ↦ λ yes.
          let a = overlap_at g h yes in
          let at_g = has i d (omega arith) (covered_memory g a.0 a.1) in
          let at_h = has j d within (covered_memory h a.0 a.2) in
          let late : n ≤ i = meeting es n at_g.0 at_h.0 (extent g i) (extent h j) none at_g.1 at_h.1 at_g.2 at_h.2 (omega (arith, a.1.2, a.2.1)) (omega (arith, a.1.1, a.2.2)) less in
          absurd (omega arith)
      | false ↦ λ apart. refl
    ] refl
