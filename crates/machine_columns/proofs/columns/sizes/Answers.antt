use Rattle.std.proofs.Common.{ℕ, ◌≡◌, [], ◌∷◌, refl, subst}
use Rattle.gold.specs.declared.instances.Witness.{Witness}
use Rattle.zk_layout.specs.Air.{air_number}
use Rattle.wit_columns.specs.Index.{Shaped}
use Rattle.wit_columns.specs.Values.{instances_of}
use Rattle.machine_columns.specs.Values.{sizes_of}
use Rattle.machine_columns.proofs.columns.sizes.Goals as goal

-- the number of tables of the air with number n
counted : (tables seen : Shaped) (m n k : ℕ) → tables ≡ seen → m ≡ k → n ≡ instances_of tables.witness.tables m → n ≡ instances_of seen.witness.tables k
counted tables seen m n k e f is = subst (λ (v : Shaped). n ≡ instances_of v.witness.tables k) e (subst (λ z. n ≡ instances_of tables.witness.tables z) f is)

same : (w : Witness) (a b c d e f g : ℕ) → a ≡ instances_of w.tables 0 → b ≡ instances_of w.tables 1 → c ≡ instances_of w.tables 2 → d ≡ instances_of w.tables 3 → e ≡ instances_of w.tables 4 → f ≡ instances_of w.tables 5
    → g ≡ instances_of w.tables 6 → record { profile = w.profile; counts = a ∷ b ∷ c ∷ d ∷ e ∷ f ∷ g ∷ [] } ≡ sizes_of w
same w a b c d e f g ha hb hc hd he hf hg = rw (ha, hb, hc, hd, he, hf, hg) refl

pub returns : goal.returns
unfolding air_number
returns c =
    same c.args.witness.now c.instances.result c.instances-2.result c.instances-3.result c.instances-4.result c.instances-5.result c.instances-6.result c.instances-7.result
    (counted _ _ c.number.result _ 0 c.requires c.number.ensures.value c.instances.ensures)
    (counted _ _ c.number-2.result _ 1 c.requires c.number-2.ensures.value c.instances-2.ensures)
    (counted _ _ c.number-3.result _ 2 c.requires c.number-3.ensures.value c.instances-3.ensures)
    (counted _ _ c.number-4.result _ 3 c.requires c.number-4.ensures.value c.instances-4.ensures)
    (counted _ _ c.number-5.result _ 4 c.requires c.number-5.ensures.value c.instances-5.ensures)
    (counted _ _ c.number-6.result _ 5 c.requires c.number-6.ensures.value c.instances-6.ensures)
    (counted _ _ c.number-7.result _ 6 c.requires c.number-7.ensures.value c.instances-7.ensures)
