-- The log and then the output.
use Rattle.std.proofs.Common.{◌≡◌, ◌≢◌, ◌⊎◌, inl, inr, ◌∙◌, sym, ap, ℕ, List, [], length, take, unwrap_or, Option, Some, IfSome}
use Rattle.std.proofs.Math.Seq.{take-length}
use Rattle.std.specs.FinMap as map
use Rattle.std.proofs.lemmas.Option.{IfSome_then}
use Rattle.q_io.specs.Files.{Disk, HoldsBytes, MayHoldFront, bytes_at}
use Rattle.q_io.proofs.StoreContents.{at_some}
use Rattle.q_run_solve.specs.Reduces.{HoldsBoth, HoldsLog, MayHoldBoth}

pub first-part : (on ln ot lt : List ℕ) (held after : Option Disk) → on ≢ ln → IfSome held (λ disk. MayHoldFront ln lt disk after) → IfSome held (λ disk. MayHoldBoth on ln ot lt disk after)
first-part on ln ot lt held after n h = IfSome_then held h (λ before m. record {
  disk = m.disk;
  told = m.told;
  log_is = m.bytes;
  out_is = inl (m.others on n);
  others = λ q a b. m.others q b;
})

pub second-part : (on ln ot lt : List ℕ) (held mid after : Option Disk) → on ≢ ln → IfSome held (λ disk. HoldsBytes ln lt disk mid) → IfSome mid (λ disk. MayHoldFront on ot disk after) → IfSome held (λ disk. MayHoldBoth on ln ot lt disk after)
second-part on ln ot lt held mid after n h k = IfSome_then held h (λ before m. go before m (at_some _ mid k m.disk m.told))
  where
    go : (before : Disk) → (m : HoldsBytes ln lt before mid) → MayHoldFront on ot m.disk after → MayHoldBoth on ln ot lt before after
    go before m t = record {
      disk = t.disk;
      told = t.told;
      log_is = inr (whole (t.others ln (λ e. n (sym e)) ∙ m.bytes));
      out_is = out t.bytes;
      others = λ q a b. t.others q a ∙ m.others q b;
    }
      where
        whole : map.get t.disk ln ≡ Some lt → (part : ℕ) × (bytes_at t.disk ln ≡ take part lt)
        whole e = (length lt, ap (λ (o : Option (List ℕ)). unwrap_or o []) e ∙ sym (take-length lt))

        out : (map.get t.disk on ≡ map.get m.disk on) ⊎ ((part : ℕ) × (bytes_at t.disk on ≡ take part ot)) → (map.get t.disk on ≡ map.get before on) ⊎ ((map.get t.disk ln ≡ Some lt) × ((part : ℕ) × (bytes_at t.disk on ≡ take part ot)))
        out (inl e) = inl (e ∙ m.others on n)
        out (inr p) = inr (t.others ln (λ e. n (sym e)) ∙ m.bytes, p)

pub both-whole : (on ln ot lt : List ℕ) (held mid after : Option Disk) → on ≢ ln → IfSome held (λ disk. HoldsBytes ln lt disk mid) → IfSome mid (λ disk. HoldsBytes on ot disk after) → IfSome held (λ disk. HoldsBoth on ln ot lt disk after)
both-whole on ln ot lt held mid after n h k = IfSome_then held h (λ before m. go before m (at_some _ mid k m.disk m.told))
  where
    go : (before : Disk) → (m : HoldsBytes ln lt before mid) → HoldsBytes on ot m.disk after → HoldsBoth on ln ot lt before after
    go before m t = record {
      disk = t.disk;
      told = t.told;
      log_is = t.others ln (λ e. n (sym e)) ∙ m.bytes;
      out_is = t.bytes;
      others = λ q a b. t.others q a ∙ m.others q b;
    }

-- the log stays where the output could not be written
pub log-stands : (on ln ot lt : List ℕ) (held mid after : Option Disk) → on ≢ ln → IfSome held (λ disk. HoldsBytes ln lt disk mid) → IfSome mid (λ disk. MayHoldFront on ot disk after) → IfSome held (λ disk. HoldsLog ln lt after)
log-stands on ln ot lt held mid after n h k = IfSome_then held h (λ before m. go before m (at_some _ mid k m.disk m.told))
  where
    go : (before : Disk) → (m : HoldsBytes ln lt before mid) → MayHoldFront on ot m.disk after → HoldsLog ln lt after
    go before m t = (t.disk, t.told, t.others ln (λ e. n (sym e)) ∙ m.bytes)
