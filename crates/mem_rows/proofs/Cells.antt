-- The columns of an instance's rows.
use Rattle.std.proofs.Common.{◌≡◌, ◌+◌, ◌-◌, ◌*◌, ◌/◌, ◌%◌, ◌^◌, ◌<◌, ◌≤◌, ℕ, zero, suc, List, [], ◌∷◌, ◌++◌, Option, Some, None, map, take, drop, length, get_or, slice_index, replicate, refl, ap, sym, ◌∙◌, subst, arith, add-one}
use Rattle.std.specs.Prelude.{All, IfSome}
use Rattle.std.specs.Option.{option_map_or}
use Rattle.std.specs.List.{range_with_len}
use Rattle.std.proofs.lemmas.List.Elements.{All-head, All-tail}
use Rattle.std.proofs.lemmas.List.FromFn.{map-range_with_len_more}
use Rattle.gold.specs.declared.instances.Table.{Table}
use Rattle.mem_rows.specs.declared.access.TheConstants.{END}
use Rattle.std.proofs.lemmas.List.{length-map, length-append, length-take, length-drop, length-replicate, take_all}
use Rattle.run_rows.specs.Tables.{padded, by_columns}
use Rattle.zk_layout.specs.Air.{air_number, rows_per, columns_per}
use Rattle.zk_layout.specs.declared.air.Air.TheVariants.{Mem, Out}
use Rattle.rv_model.specs.declared.answer.Public.{Public}
use Rattle.step_rows.specs.Words.{low, high, one_if}
use Rattle.mem_rows.specs.declared.access.Access.{Access}
use Rattle.mem_rows.specs.declared.columns.Step.{Step}
use Rattle.mem_rows.specs.Rows.{row, rows_behind, mem_table, final_values, out_table}
use Rattle.mem_rows.specs.Columns.{step_of, steps_behind, one_on, last_from, columns_of}

padded-cons : (n x : ℕ) (xs : List ℕ) → padded (suc n) (x ∷ xs) ≡ x ∷ padded n xs
padded-cons n x xs = let e : suc n - length (x ∷ xs) ≡ n - length xs = omega arith in rw e refl

padded-nil : (n : ℕ) → padded (suc n) [] ≡ 0 ∷ padded n []
padded-nil n = let e : suc n - 0 ≡ suc n = omega arith in let f : n - 0 ≡ n = omega arith in rw (e, f) refl

cell : ℕ → List ℕ → ℕ
cell c r = slice_index r c

-- a column of the accesses' own
own_cell : (c : ℕ) (f : Access → ℕ) → ((p : Option Access) (a : Access) → slice_index (row p (Some a)) c ≡ f a) → ((p : Option Access) → slice_index (row p None) c ≡ 0)
    → (n : ℕ) (p : Option Access) (zs : List Access) → padded n (map (λ r. slice_index r c) (take n (rows_behind p zs))) ≡ padded n (map f (take n zs))
own_cell c f is none zero p [] = refl
own_cell c f is none zero p (a ∷ zs) = refl
own_cell c f is none (suc n) p [] =
    padded-cons n (slice_index (row p None) c) (map (λ r. slice_index r c) (take n [])) ∙ rw (none p) (empty n) ∙ sym (padded-nil n)
  where
    empty : (n : ℕ) → 0 ∷ padded n (map (λ r. slice_index r c) (take n [])) ≡ 0 ∷ padded n []
    empty zero = refl
    empty (suc n) = refl
own_cell c f is none (suc n) p (a ∷ zs) =
    padded-cons n (slice_index (row p (Some a)) c) (map (λ r. slice_index r c) (take n (rows_behind (Some a) zs))) ∙ ap (λ x. x ∷ padded n (map (λ r. slice_index r c) (take n (rows_behind (Some a) zs)))) (is p a)
    ∙ ap (λ l. f a ∷ l) (own_cell c f is none n (Some a) zs) ∙ sym (padded-cons n (f a) (map f (take n zs)))

-- a column of what they have to do with those before them
step_cell : (c : ℕ) (f : Step → ℕ) → ((p : Option Access) (a : Access) → slice_index (row p (Some a)) c ≡ f (step_of p a)) → ((p : Option Access) → slice_index (row p None) c ≡ 0)
    → (n : ℕ) (p : Option Access) (zs : List Access) → padded n (map (λ r. slice_index r c) (take n (rows_behind p zs))) ≡ padded n (map f (steps_behind p (take n zs)))
step_cell c f is none zero p [] = refl
step_cell c f is none zero p (a ∷ zs) = refl
step_cell c f is none (suc n) p [] =
    padded-cons n (slice_index (row p None) c) (map (λ r. slice_index r c) (take n [])) ∙ rw (none p) (empty n) ∙ sym (padded-nil n)
  where
    empty : (n : ℕ) → 0 ∷ padded n (map (λ r. slice_index r c) (take n [])) ≡ 0 ∷ padded n []
    empty zero = refl
    empty (suc n) = refl
step_cell c f is none (suc n) p (a ∷ zs) =
    padded-cons n (slice_index (row p (Some a)) c) (map (λ r. slice_index r c) (take n (rows_behind (Some a) zs))) ∙ ap (λ x. x ∷ padded n (map (λ r. slice_index r c) (take n (rows_behind (Some a) zs)))) (is p a)
    ∙ ap (λ l. f (step_of p a) ∷ l) (step_cell c f is none n (Some a) zs) ∙ sym (padded-cons n (f (step_of p a)) (map f (steps_behind (Some a) (take n zs))))

take-zeros : (n : ℕ) → take n (padded (suc n) []) ≡ padded n []
take-zeros zero = refl
take-zeros (suc n) = ap (take (suc n)) (padded-nil (suc n)) ∙ ap (λ l. 0 ∷ l) (take-zeros n) ∙ sym (padded-nil n)

-- a column of the rows before
before_cell : (c : ℕ) (f : Access → ℕ) → ((p o : Option Access) → slice_index (row p o) c ≡ option_map_or f p 0)
    → (n : ℕ) (p : Option Access) (zs : List Access) → padded (suc n) (map (λ r. slice_index r c) (take (suc n) (rows_behind p zs))) ≡ option_map_or f p 0 ∷ take n (padded (suc n) (map f (take (suc n) zs)))
before_cell c f is zero p [] = padded-cons 0 (slice_index (row p None) c) [] ∙ rw (is p None) refl
before_cell c f is zero p (a ∷ zs) = padded-cons 0 (slice_index (row p (Some a)) c) [] ∙ rw (is p (Some a)) refl
before_cell c f is (suc n) p [] = padded-cons (suc n) (slice_index (row p None) c) [] ∙ rw (is p None) (ap (λ l. option_map_or f p 0 ∷ l) (sym (take-zeros (suc n))))
before_cell c f is (suc n) p (a ∷ zs) =
    padded-cons (suc n) (slice_index (row p (Some a)) c) (map (λ r. slice_index r c) (take (suc n) (rows_behind (Some a) zs))) ∙ ap (λ x. x ∷ padded (suc n) (map (λ r. slice_index r c) (take (suc n) (rows_behind (Some a) zs)))) (is p (Some a))
    ∙ ap (λ l. option_map_or f p 0 ∷ l) (before_cell c f is n (Some a) zs ∙ sym (ap (take (suc n)) (padded-cons (suc n) (f a) (map f (take (suc n) zs)))))

-- the rows from a place on
drop_rows : (k : ℕ) (p : Option Access) (xs : List Access) → k ≤ length xs → drop k (rows_behind p xs) ≡ rows_behind (last_from p xs k) (drop k xs)
drop_rows zero p [] le = refl
drop_rows zero p (x ∷ xs) le = refl
drop_rows (suc k) p [] le = absurd (omega arith)
drop_rows (suc k) p (x ∷ xs) le = drop_rows k (Some x) xs (omega arith)

pub last_from-suc : (k : ℕ) (p : Option Access) (xs : List Access) (d : Access) → k < length xs → last_from p xs (suc k) ≡ Some (get_or xs k d)
last_from-suc k p [] d lt = absurd (omega arith)
last_from-suc zero p (x ∷ xs) d lt = refl
last_from-suc (suc k) p (x ∷ xs) d lt = last_from-suc k (Some x) xs d (omega arith)

pub last_at : (xs : List Access) (start : ℕ) (d : Access) → (start ≡ 0 → ⊥) → start ≤ length xs → Some (get_or xs (start - 1) d) ≡ last_from None xs start
last_at xs start d some le =
    let e : start ≡ suc (start - 1) = omega (arith, add-one (start - 1)) in sym (ap (last_from None xs) e ∙ last_from-suc (start - 1) None xs d (omega arith))

pub last_time : (p : Option Access) (xs : List Access) (k : ℕ) → IfSome p (λ (a : Access). a.time ≤ END) → All (λ (a : Access). a.time ≤ END) xs → IfSome (last_from p xs k) (λ (a : Access). a.time ≤ END)
last_time p [] zero one all = one
last_time p (x ∷ xs) zero one all = one
last_time p [] (suc k) one all = one
last_time p (x ∷ xs) (suc k) one all = last_time (Some x) xs k (All-head (λ (a : Access). a.time ≤ END) x xs all) (All-tail (λ (a : Access). a.time ≤ END) x xs all)

pub length-steps : (p : Option Access) (xs : List Access) → length (steps_behind p xs) ≡ length xs
length-steps p [] = refl
length-steps p (a ∷ xs) = let e = length-steps (Some a) xs in omega arith

pub table_more : (xs : List Access) (k : ℕ) (now new : List Table) (t : Table) → now ≡ map (mem_table xs) (range_with_len 0 k) → t ≡ mem_table xs k → new ≡ now ++ t ∷ [] → new ≡ map (mem_table xs) (range_with_len 0 (k + 1))
table_more xs k now new t h e p =
    p ∙ ap (λ x. now ++ x ∷ []) e ∙ ap (λ ts. ts ++ mem_table xs k ∷ []) h ∙ sym (map-range_with_len_more (mem_table xs) 0 k k (omega arith))

both : {A : Type 0} (x y : A) (xs ys : List A) → x ≡ y → xs ≡ ys → x ∷ xs ≡ y ∷ ys
both x y xs ys e h = rw (e, h) refl

padded_length : (n : ℕ) (xs : List ℕ) → length xs ≤ n → length (padded n xs) ≡ n
padded_length n xs le = length-append xs (replicate (n - length xs) 0) ∙ ap (λ k. length xs + k) (length-replicate (n - length xs) 0) ∙ omega arith

one_on_is : (n x : ℕ) (f : Access → ℕ) (zs : List Access) → one_on x (padded (suc n) (map f (take (suc n) zs))) ≡ x ∷ take n (padded (suc n) (map f (take (suc n) zs)))
one_on_is n x f zs =
    let few : length (map f (take (suc n) zs)) ≤ suc n = omega (arith, length-map (take (suc n) zs) f, length-take (suc n) zs) in
    let many = padded_length (suc n) (map f (take (suc n) zs)) few in
    let e : length (padded (suc n) (map f (take (suc n) zs))) - 1 ≡ n = omega arith in rw e refl

own_0 : (p : Option Access) (a : Access) → slice_index (row p (Some a)) 0 ≡ 1
own_0 None a = refl
own_0 (Some q) a = refl

own_1 : (p : Option Access) (a : Access) → slice_index (row p (Some a)) 1 ≡ a.key
own_1 None a = refl
own_1 (Some q) a = refl

own_2 : (p : Option Access) (a : Access) → slice_index (row p (Some a)) 2 ≡ a.time
own_2 None a = refl
own_2 (Some q) a = refl

own_3 : (p : Option Access) (a : Access) → slice_index (row p (Some a)) 3 ≡ one_if a.write
own_3 None a = refl
own_3 (Some q) a = refl

own_4 : (p : Option Access) (a : Access) → slice_index (row p (Some a)) 4 ≡ low a.value
own_4 None a = refl
own_4 (Some q) a = refl

own_5 : (p : Option Access) (a : Access) → slice_index (row p (Some a)) 5 ≡ high a.value
own_5 None a = refl
own_5 (Some q) a = refl

none_0 : (p : Option Access) → slice_index (row p None) 0 ≡ 0
none_0 None = refl
none_0 (Some q) = refl

none_1 : (p : Option Access) → slice_index (row p None) 1 ≡ 0
none_1 None = refl
none_1 (Some q) = refl

none_2 : (p : Option Access) → slice_index (row p None) 2 ≡ 0
none_2 None = refl
none_2 (Some q) = refl

none_3 : (p : Option Access) → slice_index (row p None) 3 ≡ 0
none_3 None = refl
none_3 (Some q) = refl

none_4 : (p : Option Access) → slice_index (row p None) 4 ≡ 0
none_4 None = refl
none_4 (Some q) = refl

none_5 : (p : Option Access) → slice_index (row p None) 5 ≡ 0
none_5 None = refl
none_5 (Some q) = refl

none_6 : (p : Option Access) → slice_index (row p None) 6 ≡ 0
none_6 None = refl
none_6 (Some q) = refl

none_7 : (p : Option Access) → slice_index (row p None) 7 ≡ 0
none_7 None = refl
none_7 (Some q) = refl

none_8 : (p : Option Access) → slice_index (row p None) 8 ≡ 0
none_8 None = refl
none_8 (Some q) = refl

none_9 : (p : Option Access) → slice_index (row p None) 9 ≡ 0
none_9 None = refl
none_9 (Some q) = refl

step_6 : (p : Option Access) (a : Access) → slice_index (row p (Some a)) 6 ≡ one_if (step_of p a).same
step_6 None a = refl
step_6 (Some q) a = refl

step_7 : (p : Option Access) (a : Access) → slice_index (row p (Some a)) 7 ≡ (step_of p a).gap % 65536
step_7 None a = refl
step_7 (Some q) a = refl

step_8 : (p : Option Access) (a : Access) → slice_index (row p (Some a)) 8 ≡ (step_of p a).gap / 65536 % 65536
step_8 None a = refl
step_8 (Some q) a = refl

step_9 : (p : Option Access) (a : Access) → slice_index (row p (Some a)) 9 ≡ (step_of p a).gap / 2 ^ 32
step_9 None a = refl
step_9 (Some q) a = refl

before_10 : (p o : Option Access) → slice_index (row p o) 10 ≡ option_map_or (λ (a : Access). 1) p 0
before_10 None None = refl
before_10 None (Some a) = refl
before_10 (Some q) None = refl
before_10 (Some q) (Some a) = refl

before_11 : (p o : Option Access) → slice_index (row p o) 11 ≡ option_map_or (λ (a : Access). a.key) p 0
before_11 None None = refl
before_11 None (Some a) = refl
before_11 (Some q) None = refl
before_11 (Some q) (Some a) = refl

before_12 : (p o : Option Access) → slice_index (row p o) 12 ≡ option_map_or (λ (a : Access). a.time) p 0
before_12 None None = refl
before_12 None (Some a) = refl
before_12 (Some q) None = refl
before_12 (Some q) (Some a) = refl

before_13 : (p o : Option Access) → slice_index (row p o) 13 ≡ option_map_or (λ (a : Access). low a.value) p 0
before_13 None None = refl
before_13 None (Some a) = refl
before_13 (Some q) None = refl
before_13 (Some q) (Some a) = refl

before_14 : (p o : Option Access) → slice_index (row p o) 14 ≡ option_map_or (λ (a : Access). high a.value) p 0
before_14 None None = refl
before_14 None (Some a) = refl
before_14 (Some q) None = refl
before_14 (Some q) (Some a) = refl

pub columns_are : (n : ℕ) (p : Option Access) (zs : List Access) → by_columns 15 (suc n) (take (suc n) (rows_behind p zs)) ≡ columns_of (suc n) p (take (suc n) zs)
columns_are n p zs =
    both _ _ _ _ (own_cell 0 (λ (a : Access). 1) own_0 none_0 (suc n) p zs) (both _ _ _ _ (own_cell 1 (λ (a : Access). a.key) own_1 none_1 (suc n) p zs) (both _ _ _ _ (own_cell 2 (λ (a : Access). a.time) own_2 none_2 (suc n) p zs) (both _ _ _ _ (own_cell 3 (λ (a : Access). one_if a.write) own_3 none_3 (suc n) p zs) (both _ _ _ _ (own_cell 4 (λ (a : Access). low a.value) own_4 none_4 (suc n) p zs) (both _ _ _ _ (own_cell 5 (λ (a : Access). high a.value) own_5 none_5 (suc n) p zs) (both _ _ _ _ (step_cell 6 (λ (s : Step). one_if s.same) step_6 none_6 (suc n) p zs) (both _ _ _ _ (step_cell 7 (λ (s : Step). s.gap % 65536) step_7 none_7 (suc n) p zs) (both _ _ _ _ (step_cell 8 (λ (s : Step). s.gap / 65536 % 65536) step_8 none_8 (suc n) p zs) (both _ _ _ _ (step_cell 9 (λ (s : Step). s.gap / 2 ^ 32) step_9 none_9 (suc n) p zs) (both _ _ _ _ (before_cell 10 (λ (a : Access). 1) before_10 n p zs ∙ sym (one_on_is n (option_map_or (λ (a : Access). 1) p 0) (λ (a : Access). 1) zs)) (both _ _ _ _ (before_cell 11 (λ (a : Access). a.key) before_11 n p zs ∙ sym (one_on_is n (option_map_or (λ (a : Access). a.key) p 0) (λ (a : Access). a.key) zs)) (both _ _ _ _ (before_cell 12 (λ (a : Access). a.time) before_12 n p zs ∙ sym (one_on_is n (option_map_or (λ (a : Access). a.time) p 0) (λ (a : Access). a.time) zs)) (both _ _ _ _ (before_cell 13 (λ (a : Access). low a.value) before_13 n p zs ∙ sym (one_on_is n (option_map_or (λ (a : Access). low a.value) p 0) (λ (a : Access). low a.value) zs)) (both _ _ _ _ (before_cell 14 (λ (a : Access). high a.value) before_14 n p zs ∙ sym (one_on_is n (option_map_or (λ (a : Access). high a.value) p 0) (λ (a : Access). high a.value) zs)) refl))))))))))))))

mem_columns : 15 ≡ columns_per Mem
unfolding columns_per
mem_columns = refl

pub table_is : (xs own : List Access) (i number rows start : ℕ) (p : Option Access) (cols : List (List ℕ)) → number ≡ air_number Mem → rows ≡ rows_per Mem → 0 < rows → start ≡ i * rows → start ≤ length xs → own ≡ take rows (drop start xs)
    → p ≡ last_from None xs start → cols ≡ columns_of rows p own → ◌≡◌ {A = Table} (record { air = number; instance = i; columns = cols }) (mem_table xs i)
table_is xs own i number rows start p cols a r some s le o b e =
    let suc_rows : rows ≡ suc (rows - 1) = omega (arith, add-one (rows - 1)) in
    let at : by_columns 15 rows (take rows (rows_behind (last_from None xs start) (drop start xs))) ≡ columns_of rows (last_from None xs start) (take rows (drop start xs)) =
    let P : ℕ → Type 0 = λ m. by_columns 15 m (take m (rows_behind (last_from None xs start) (drop start xs))) ≡ columns_of m (last_from None xs start) (take m (drop start xs)) in
    subst P (sym suc_rows) (columns_are (rows - 1) (last_from None xs start) (drop start xs)) in
    let cells : cols ≡ by_columns 15 rows (take rows (drop (i * rows) (rows_behind None xs))) =
    e ∙ ap (λ q. columns_of rows q own) b ∙ ap (columns_of rows (last_from None xs start)) o ∙ sym at ∙ ap (λ l. by_columns 15 rows (take rows l)) (sym (drop_rows start None xs le)) ∙ ap (λ k. by_columns 15 rows (take rows (drop k (rows_behind None xs)))) s in
    ap (λ k. record { air = k; instance = i; columns = cols }) a ∙ ap (λ l. record { air = air_number Mem; instance = i; columns = l }) (cells ∙ ap (λ m. by_columns 15 m (take m (drop (i * m) (rows_behind None xs)))) r ∙ ap (λ w. by_columns w (rows_per Mem) (take (rows_per Mem) (drop (i * rows_per Mem) (rows_behind None xs)))) mem_columns)

-- ---- Out
map_limb : (f : ℕ → ℕ) (g : ℕ → List ℕ) (c : ℕ) → ((v : ℕ) → slice_index (g v) c ≡ f v) → (vs : List ℕ) → map (λ r. slice_index r c) (map g vs) ≡ map f vs
map_limb f g c h [] = refl
map_limb f g c h (v ∷ vs) = both (slice_index (g v) c) (f v) (map (λ r. slice_index r c) (map g vs)) (map f vs) (h v) (map_limb f g c h vs)

out_rows : (n : ℕ) (vs : List ℕ) → length vs ≤ n → take n (drop (0 * n) (map (λ v. low v ∷ high v ∷ []) vs)) ≡ map (λ v. low v ∷ high v ∷ []) vs
out_rows n vs le =
    let z : 0 * n ≡ 0 = omega arith in
    let few : length (map (λ v. low v ∷ high v ∷ []) vs) ≤ n = omega (arith, length-map vs (λ v. low v ∷ high v ∷ [])) in
    ap (λ k. take n (drop k (map (λ v. low v ∷ high v ∷ []) vs))) z ∙ take_all n (map (λ v. low v ∷ high v ∷ []) vs) few

pub out_columns : (n : ℕ) (vs : List ℕ) → length vs ≤ n → by_columns 2 n (take n (drop (0 * n) (map (λ v. low v ∷ high v ∷ []) vs))) ≡ padded n (map low vs) ∷ padded n (map high vs) ∷ []
out_columns n vs le =
    ap (by_columns 2 n) (out_rows n vs le)
    ∙ both _ _ _ _ (ap (padded n) (map_limb low (λ v. low v ∷ high v ∷ []) 0 (λ v. refl) vs)) (both _ _ _ _ (ap (padded n) (map_limb high (λ v. low v ∷ high v ∷ []) 1 (λ v. refl) vs)) refl)

out_length : (public : Public) → length (final_values public) ≡ 33
out_length public = refl

two_columns : 2 ≡ columns_per Out
unfolding columns_per
two_columns = refl

pub out_is : (public : Public) (number rows : ℕ) (values seen again : List ℕ) (none one two : List (List ℕ)) (lo hi : List ℕ) → number ≡ air_number Out → rows ≡ rows_per Out → 64 ≤ rows → values ≡ final_values public → seen ≡ values → again ≡ values
    → none ≡ [] → lo ≡ padded rows (map low seen) → one ≡ none ++ lo ∷ [] → hi ≡ padded rows (map high again) → two ≡ one ++ hi ∷ [] → ◌≡◌ {A = Table} (record { air = number; instance = 0; columns = two }) (out_table public)
out_is public number rows values seen again none one two lo hi a r least v s g n l o h t =
    let few : length (final_values public) ≤ rows = let e = out_length public in omega arith in
    let cells : two ≡ by_columns 2 rows (take rows (drop (0 * rows) (map (λ v. low v ∷ high v ∷ []) (final_values public)))) =
    t ∙ ap (λ xs. xs ++ hi ∷ []) (o ∙ ap (λ xs. xs ++ lo ∷ []) n) ∙ both _ _ _ _ (l ∙ ap (λ xs. padded rows (map low xs)) (s ∙ v)) (both _ _ _ _ (h ∙ ap (λ xs. padded rows (map high xs)) (g ∙ v)) refl) ∙ sym (out_columns rows (final_values public) few) in
    ap (λ k. record { air = k; instance = 0; columns = two }) a ∙ ap (λ c. record { air = air_number Out; instance = 0; columns = c }) (cells ∙ ap (λ m. by_columns 2 m (take m (drop (0 * m) (map (λ v. low v ∷ high v ∷ []) (final_values public))))) r ∙ ap (λ w. by_columns w (rows_per Out) (take (rows_per Out) (drop (0 * rows_per Out) (map (λ v. low v ∷ high v ∷ []) (final_values public))))) two_columns)

pub rest_is : (xs : List Access) (start : ℕ) → take (length xs - start) (drop start xs) ≡ drop start xs
rest_is xs start = take_all (length xs - start) (drop start xs) (omega (arith, length-drop start xs))
