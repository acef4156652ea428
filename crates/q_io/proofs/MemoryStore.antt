-- What a store in memory holds at a name, read off its map.
use Rattle.std.proofs.Common.{◌≡◌, ◌-◌, min, arith, ℕ, zero, suc, Bool, true, false, cond, List, [], ◌∷◌, ◌++◌, length, take, drop, refl, sym, ap, subst, ◌∙◌, Option, Some, None, option_map, unwrap_or, string_bytes, String, Vec, inl, length-drop, append-nil}
use Rattle.std.specs.Ordering.{nat_cmp, is_eq}
use Rattle.std.specs.Cmp.Lexicographic.{slice_cmp, nat_list_cmp_total}
use Rattle.std.specs.FinMap as fin
use Rattle.std.specs.BTreeMap as tree
use Rattle.std.specs.BTreeMap.{BTreeMap}
use Rattle.std.specs.Map.{lookup}
use Rattle.std.specs.Str.{bytes_eq}
use Rattle.std.specs.String.{string_cmp}
use Rattle.std.specs.declared.alloc.Global.{Global}
use Rattle.std.proofs.lemmas.Map.Text.{btree_map_updates_text}
use Rattle.std.proofs.lemmas.Slice.Eq.{bytes_eq-Decides}
use Rattle.std.proofs.lemmas.Bool.{false_from_ne_true}
use Rattle.q_io.specs.Files.{Disk, OthersStay, bytes_at, Reads, Empties, MayEmpty, Appends, AppendsPart}
use Rattle.q_io.specs.Memory.{texts, disk_of}

one_entry : (b : Bool) (v : Vec ℕ Global) (r : Option (Vec ℕ Global)) (s : Option (List ℕ)) → s ≡ option_map (λ v. v.items) r → cond b (Some v.items) s ≡ option_map (λ v. v.items) (cond b (Some v) r)
one_entry true v r s e = refl
one_entry false v r s e = e

find_texts : (q : List ℕ) (es : List (String Global × Vec ℕ Global)) → fin.find (slice_cmp nat_cmp) q (texts es) ≡ option_map (λ v. v.items) (lookup (λ k. is_eq (slice_cmp nat_cmp q (string_bytes k))) es)
find_texts q [] = refl
find_texts q (e ∷ es) = one_entry (is_eq (slice_cmp nat_cmp q (string_bytes e.0))) e.1 _ _ (find_texts q es)

pub get-disk_of : (m : BTreeMap (String Global) (Vec ℕ Global)) (q : List ℕ) → fin.get (disk_of m) q ≡ option_map (λ v. v.items) (tree.get_by_text m q)
get-disk_of m q = fin.get-from_entries nat_list_cmp_total (texts m.entries) q ∙ find_texts q m.entries

pub put_same : (bs : List ℕ) (m n : BTreeMap (String Global) (Vec ℕ Global)) (v : Vec ℕ Global) → tree.UpdatesBy string_cmp (λ k. slice_cmp nat_cmp bs (string_bytes k)) m n (Some v) → fin.get (disk_of n) bs ≡ Some v.items
put_same bs m n v u =
    get-disk_of n bs ∙ ap (option_map (λ v. v.items)) (btree_map_updates_text bs m n (Some v) u bs ∙ ap (λ b. cond b (Some v) (tree.get_by_text m bs)) ((bytes_eq-Decides bs bs).1 refl))

pub put_others : (bs : List ℕ) (m n : BTreeMap (String Global) (Vec ℕ Global)) (w : Option (Vec ℕ Global)) → tree.UpdatesBy string_cmp (λ k. slice_cmp nat_cmp bs (string_bytes k)) m n w → OthersStay bs (disk_of m) (disk_of n)
put_others bs m n w u q ne =
    get-disk_of n q ∙ ap (option_map (λ v. v.items)) (btree_map_updates_text bs m n w u q ∙ ap (λ b. cond b w (tree.get_by_text m q)) (false_from_ne_true (bytes_eq bs q) (λ e. ne (sym ((bytes_eq-Decides bs q).0 e))))) ∙ sym (get-disk_of m q)

pub same_disk : (m n : BTreeMap (String Global) (Vec ℕ Global)) → n.entries ≡ m.entries → disk_of n ≡ disk_of m
same_disk m n e = ap (λ es. fin.from_entries {R = slice_cmp nat_cmp} (texts es)) e

pub unchanged_may_empty : (name : List ℕ) (before after : Disk) → after ≡ before → MayEmpty name before (Some after)
unchanged_may_empty name before after e = record { disk = before; told = ap Some e; bytes = inl refl; others = λ q ne. refl }

pub unchanged_part : (name more : List ℕ) (before after : Disk) → fin.get after name ≡ fin.get before name → OthersStay name before after → AppendsPart name more before (Some after)
unchanged_part name more before after e o =
    record { disk = after; told = refl; part = 0; bytes = ap (λ o. unwrap_or o []) e ∙ sym (append-nil (bytes_at before name)); others = o }

pub emptied : (name : List ℕ) (before after : Disk) → fin.get after name ≡ Some [] → OthersStay name before after → Empties name before (Some after)
emptied name before after e o = record { disk = after; told = refl; bytes = e; others = o }

pub appended : (name more : List ℕ) (before after : Disk) → fin.get after name ≡ Some (bytes_at before name ++ more) → OthersStay name before after → Appends name more before (Some after)
appended name more before after e o = record { disk = after; told = refl; bytes = e; others = o }

take-front : (p k : ℕ) (xs : List ℕ) → (n : ℕ) × (take p (take k xs) ≡ take n xs)
take-front zero k xs = (0, refl)
take-front (suc p) zero xs = (0, refl)
take-front (suc p) (suc k) [] = (0, refl)
take-front (suc p) (suc k) (x ∷ xs) = let r : (n : ℕ) × (take p (take k xs) ≡ take n xs) = take-front p k xs in (suc r.0, ap (λ ys. x ∷ ys) r.1)

-- where only a front of the bytes was to be appended
pub appended_front : (name more : List ℕ) (k : ℕ) (before : Disk) (after : Option Disk) → Appends name (take k more) before after → AppendsPart name more before after
appended_front name more k before after h =
    record { disk = h.disk; told = h.told; part = k; bytes = ap (λ o. unwrap_or o []) h.bytes; others = h.others }

pub part_of_front : (name more : List ℕ) (k : ℕ) (before : Disk) (after : Option Disk) → AppendsPart name (take k more) before after → AppendsPart name more before after
part_of_front name more k before after h =
    let r : (n : ℕ) × (take h.part (take k more) ≡ take n more) = take-front h.part k more in
    record { disk = h.disk; told = h.told; part = r.0; bytes = h.bytes ∙ ap (λ xs. bytes_at before name ++ xs) r.1; others = h.others }

-- a read of n bytes, where the name is held
pub read_held : (disk : Disk) (name bytes : List ℕ) (place : ℕ) (old new : List ℕ) (n : ℕ) → fin.get disk name ≡ Some bytes → n ≡ min (length old) (length bytes - place) → take n new ≡ take n (drop place bytes) → Reads disk name place old new n
read_held disk name bytes place old new n held count copied =
    let at : bytes_at disk name ≡ bytes = ap (λ o. unwrap_or o []) held in
    record {
      copied = rw at copied;
      left = rw (at, length-drop) (omega arith);
      end = λ z p. rw at (omega arith);
    }

pub count_held : (disk : Disk) (name bytes : List ℕ) (place : ℕ) (old : List ℕ) (n : ℕ) → fin.get disk name ≡ Some bytes → n ≡ min (length old) (length bytes - place) → n ≡ min (length old) (length (bytes_at disk name) - place)
count_held disk name bytes place old n held count =
    let at : bytes_at disk name ≡ bytes = ap (λ o. unwrap_or o []) held in
    rw at count

pub count_missing : (disk : Disk) (name : List ℕ) (place : ℕ) (old : List ℕ) → fin.get disk name ≡ None → 0 ≡ min (length old) (length (bytes_at disk name) - place)
count_missing disk name place old missing =
    let at : bytes_at disk name ≡ [] = ap (λ o. unwrap_or o []) missing in
    rw at (omega arith)

-- after a write through the reference that a look-up gave
pub extended : (bs more : List ℕ) (m n : BTreeMap (String Global) (Vec ℕ Global)) (v w : Vec ℕ Global) → Some v ≡ tree.get_by_text m bs → w.items ≡ v.items ++ more → tree.UpdatesBy string_cmp (λ k. slice_cmp nat_cmp bs (string_bytes k)) m n (Some w) → fin.get (disk_of n) bs ≡ Some (bytes_at (disk_of m) bs ++ more)
extended bs more m n v w found more_is u =
    let was : fin.get (disk_of m) bs ≡ Some v.items = get-disk_of m bs ∙ sym (ap (option_map (λ v. v.items)) found) in
    put_same bs m n w u ∙ ap Some (more_is ∙ ap (λ o. unwrap_or o [] ++ more) (sym was))

pub as_it_was : (bs : List ℕ) (m n : BTreeMap (String Global) (Vec ℕ Global)) (v w : Vec ℕ Global) → Some v ≡ tree.get_by_text m bs → w.items ≡ v.items → tree.UpdatesBy string_cmp (λ k. slice_cmp nat_cmp bs (string_bytes k)) m n (Some w) → fin.get (disk_of n) bs ≡ fin.get (disk_of m) bs
as_it_was bs m n v w found same u =
    let was : fin.get (disk_of m) bs ≡ Some v.items = get-disk_of m bs ∙ sym (ap (option_map (λ v. v.items)) found) in
    put_same bs m n w u ∙ ap Some same ∙ sym was

pub stored_new : (bs more : List ℕ) (m n : BTreeMap (String Global) (Vec ℕ Global)) (w : Vec ℕ Global) → None ≡ tree.get_by_text m bs → w.items ≡ more → tree.UpdatesBy string_cmp (λ k. slice_cmp nat_cmp bs (string_bytes k)) m n (Some w) → fin.get (disk_of n) bs ≡ Some (bytes_at (disk_of m) bs ++ more)
stored_new bs more m n w absent is u =
    let was : fin.get (disk_of m) bs ≡ None = get-disk_of m bs ∙ sym (ap (option_map (λ v. v.items)) absent) in
    put_same bs m n w u ∙ ap Some (is ∙ ap (λ o. unwrap_or o [] ++ more) (sym was))

-- an insert under a key, by the key's bytes
pub at_bytes : (key : String Global) (bs : List ℕ) (m n : BTreeMap (String Global) (Vec ℕ Global)) (w : Option (Vec ℕ Global)) → string_bytes key ≡ bs → tree.UpdatesBy string_cmp (λ k. slice_cmp nat_cmp (string_bytes key) (string_bytes k)) m n w → tree.UpdatesBy string_cmp (λ k. slice_cmp nat_cmp bs (string_bytes k)) m n w
at_bytes key bs m n w e u = subst (λ (b : List ℕ). tree.UpdatesBy string_cmp (λ k. slice_cmp nat_cmp b (string_bytes k)) m n w) e u

pub stored_absent : (bs more : List ℕ) (m : BTreeMap (String Global) (Vec ℕ Global)) (after : Disk) → tree.get_by_text m bs ≡ None → fin.get after bs ≡ Some more → fin.get after bs ≡ Some (bytes_at (disk_of m) bs ++ more)
stored_absent bs more m after absent is =
    let was : fin.get (disk_of m) bs ≡ None = get-disk_of m bs ∙ ap (option_map (λ v. v.items)) absent in
    is ∙ ap (λ o. Some (unwrap_or o [] ++ more)) (sym was)

pub read_missing : (disk : Disk) (name : List ℕ) (place : ℕ) (old new : List ℕ) → fin.get disk name ≡ None → Reads disk name place old new 0
read_missing disk name place old new missing =
    let at : bytes_at disk name ≡ [] = ap (λ o. unwrap_or o []) missing in
    record {
      copied = refl;
      left = omega arith;
      end = λ z p. rw at (omega arith);
    }
