-- A read into the room behind index `end` leaves what stands before it, and puts its bytes behind that.
use Rattle.std.proofs.Common.{◌≡◌, ℕ, ◌+◌, ◌≤◌, List, ◌++◌, length, take, drop, sym, ap, ◌∙◌, le_refl, drop_at, length-take-le}
use Rattle.std.proofs.lemmas.Slice.{take-put_mid_below}
use borrow.Rule.Slice.PartMut.{put_mid, post_of}
use lib.Seq.{take-add, take-append-le}

pub filled :
    (end left n : ℕ) (room part : List ℕ) → end ≤ length room → n ≤ length part →
    take end room ++ take n part ≡ take (end + n) (put_mid end left room part)
filled end left n room part within fits =
    let whole : List ℕ = put_mid end left room part in
    let front : take end whole ≡ take end room = take-put_mid_below _ _ _ _ _ (le_refl _) within in
    let behind : drop end whole ≡ part ++ post_of end left room = drop_at (take end room) _ end (length-take-le end room within) in
    let new : take n part ≡ take n (drop end whole) = sym (take-append-le n part _ fits) ∙ ap (take n) (sym behind) in
    ap (λ l. l ++ take n part) (sym front) ∙ ap (λ l. take end whole ++ l) new ∙ sym (take-add end n whole)
