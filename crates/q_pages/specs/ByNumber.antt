-- Values by number: small numbers in a plain row, great ones in pages.
use Rattle.std.specs.Prelude.{◌≡◌, ◌≢◌, ℕ, nat_lt, cond, List, slice_index_or, refl}
use Rattle.std.specs.Coded.{Coded, code_by, coded×, coded_list}
use Rattle.q_pages.specs.Rows.{Row, row_code, item_at}

pub record Values (T : Type 0) : Type 0 where
  pub near : List T
  pub far : Row T

-- the values are stored as the tuple of their fields
abbrev pub values_code : {T : Type 0} → Coded T → Coded (Values T)
values_code {T} code =
    code_by
    (List T × Row T)
    (coded× (coded_list code) (row_code code))
    (λ v. (v.near, v.far))
    (λ p. record { near = p.0; far = p.1 })
    (λ _. refl)

module _ {T : Type 0} where
  -- the value at a number
  abbrev pub value_at : Values T → ℕ → T
  value_at v k = cond (nat_lt k 1048576) (slice_index_or v.near k v.far.none) (item_at v.far k)

  -- a number has got a value, and the others have what they had
  pub record IsPut (old new : Values T) (k : ℕ) (value : T) : Type 0 where
    pub here : value_at new k ≡ value
    pub others : (j : ℕ) → j ≢ k → value_at new j ≡ value_at old j
    pub none : new.far.none ≡ old.far.none

  pub record AreSameValues (old new : Values T) : Type 0 where
    pub all : (j : ℕ) → value_at new j ≡ value_at old j
    pub none : new.far.none ≡ old.far.none
