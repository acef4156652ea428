-- A row of the table applies exactly where no formula file goes on.
use Rattle.std.proofs.Common.{◌≡◌, ◌↔◌, inl, inr, ℕ, List, [], ◌∷◌, ◌++◌, Ok, Err, Result, Option, Some, None, refl, ap, sym, ◌∙◌}
use Rattle.q_logic.specs.declared.limits.Limits.{Limits}
use Rattle.q_text.specs.declared.tokens.TokenKind.{TokenKind}
use Rattle.q_dimacs.specs.Reading.{Gathered, step_of, end_of}
use Rattle.q_offences.specs.FormulaFronts.{IsWhole, MayGoOn}
use Rattle.q_offences.specs.FormulaTable.{Row, bad_header, header_limit, late_quantifier, bad_token, clause_count, above_header, bound_twice, literal_limit, unended, table, AppliesAt, AppliesAtEnd}
use Rattle.q_offences.proofs.FirstRows.{first_true, Stands, some-first, first-is}
use Rattle.q_offences.proofs.ToldFronts.{told}
use Rattle.q_offences.proofs.GoingOn.{Taken, taken-goes-on, going-on-taken, whole-taken, taken-whole}
use Rattle.q_offences.proofs.RowTests.{at, at_end, fault, cause_at, step-cause, end-cause}
use Rattle.q_offences.proofs.RowsApply.{rows-said, end-rows-said}
use Rattle.q_offences.proofs.FirstOffences.{one-more, row-of}

in-table : (r : Row) → Stands r table
in-table bad_header = inl refl
in-table header_limit = inr (inl refl)
in-table late_quantifier = inr (inr (inl refl))
in-table bad_token = inr (inr (inr (inl refl)))
in-table clause_count = inr (inr (inr (inr (inl refl))))
in-table above_header = inr (inr (inr (inr (inr (inl refl)))))
in-table bound_twice = inr (inr (inr (inr (inr (inr (inl refl))))))
in-table literal_limit = inr (inr (inr (inr (inr (inr (inr (inl refl)))))))
in-table unended = inr (inr (inr (inr (inr (inr (inr (inr (inl refl))))))))

no-cause : (o : Option Row) → None ≡ cause_at o → o ≡ None
no-cause None e = refl
no-cause (Some r) e = cc

pub rows-at : (m : Limits) (ks : List TokenKind) (k : TokenKind) → MayGoOn m ks → ((row : Row) × AppliesAt m ks k row) ↔ (¬ MayGoOn m (ks ++ k ∷ []))
rows-at m ks k h = go (going-on-taken m ks h) where
  go : Taken m ks → ((row : Row) × AppliesAt m ks k row) ↔ (¬ MayGoOn m (ks ++ k ∷ []))
  go (d, e) = (down, up (step_of m d k) refl) where
    down : (row : Row) × AppliesAt m ks k row → ¬ MayGoOn m (ks ++ k ∷ [])
    down (r, a) g =
        let w = going-on-taken m (ks ++ k ∷ []) g in
        let s : step_of m d k ≡ Ok w.0 = sym (one-more m ks k d (step_of m d k) e refl) ∙ w.1 in
        let n = no-cause (first_true (at m d k) table) (sym (ap fault s) ∙ step-cause m d k) in
        some-first (at m d k) table r (in-table r) ((rows-said m ks k d e (told m ks d e) r).0 a) n

    up : (x : Result Gathered ℕ) → step_of m d k ≡ x → ¬ MayGoOn m (ks ++ k ∷ []) → (row : Row) × AppliesAt m ks k row
    up (Ok b) i n = absurd (n (taken-goes-on m (ks ++ k ∷ []) b (one-more m ks k d (Ok b) e i)))
    up (Err c) i n =
        let r = row-of (first_true (at m d k) table) c (sym (ap fault i) ∙ step-cause m d k) in
        (r.0, (rows-said m ks k d e (told m ks d e) r.0).1 (first-is (at m d k) table r.0 r.1))

pub rows-at-end : (m : Limits) (ks : List TokenKind) → MayGoOn m ks → ((row : Row) × AppliesAtEnd m ks row) ↔ (¬ IsWhole m ks)
rows-at-end m ks h = go (going-on-taken m ks h) where
  go : Taken m ks → ((row : Row) × AppliesAtEnd m ks row) ↔ (¬ IsWhole m ks)
  go (d, e) = (down, up (end_of d) refl) where
    down : (row : Row) × AppliesAtEnd m ks row → ¬ IsWhole m ks
    down (r, a) g =
        let w = whole-taken m ks g in
        let i : d ≡ w.0 = let x = w.1 in cc in
        let n = no-cause (first_true (at_end d) table) (sym w.2 ∙ (ap end_of (sym i) ∙ end-cause d)) in
        some-first (at_end d) table r (in-table r) ((end-rows-said m ks d e (told m ks d e) r).0 a) n

    up : (x : Option ℕ) → end_of d ≡ x → ¬ IsWhole m ks → (row : Row) × AppliesAtEnd m ks row
    up None i n = absurd (n (taken-whole m ks d e i))
    up (Some c) i n =
        let r = row-of (first_true (at_end d) table) c (sym i ∙ end-cause d) in
        (r.0, (end-rows-said m ks d e (told m ks d e) r.0).1 (first-is (at_end d) table r.0 r.1))
