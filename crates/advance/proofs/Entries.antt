-- What comes next at a node.
use mathlib.Core.Path.{◌≡◌, refl, sym, ap, ◌∙◌}
use mathlib.Core.Bool.{true, ◌&&◌}
use mathlib.Core.Logic.{inl, inr}
use mathlib.Core.List.{List}
use Prim.Native.Nat.{ℕ, ◌-◌, ◌≤◌, ◌<◌}
use native.Mathlib.Decide.{ℕ_discrete}
use native.Mathlib.Omega.{arith}
use lib.Dec.{eqb}
use lib.IntN.{ℤ}
use lib.ListN.{get_or, length, drop}
use lib.Seq.{get_or-take, get_or-drop}
use borrow.Author.Tests.{eqb-true, eq-eqb, ne_eqb}
use Rattle.prelude.proofs.Bools.{and_left, and_right}
use Rattle.language.specs.Syntax.{is_nil}
use Rattle.program.specs.Program.{kind_at}
use Rattle.program.specs.declared.forms.Front.{Front}
use Rattle.program.specs.Forms.{nothing, itself, front_of, part_in}
use Rattle.program.proofs.Fronts.{front_form}
use Rattle.residual.specs.Residual.{own}
use Rattle.residual.specs.Nodes.{residual_of, in_front}
use Rattle.residual.proofs.Sights.{alone_within, beside_above, Sight, sees_nothing, sees_itself, sees_alone, sees_before, sees_watched, sees_guarded, sees_beside}
use Rattle.moves.specs.Promises.{IsWriter}
use Rattle.language.specs.KindGroups.{has_write}
use Rattle.moves.proofs.OwnMoves.{writer_is}
use Rattle.advance.specs.Promises.{own_next, Leads, own_move, Follows}

nil_seen :
    {words : List ℕ} {k : ℕ} {st : List ℕ} {f : Front} → Sight words k st f → f.form ≡ nothing →
    is_nil (residual_of words k st) ≡ true
unfolding is_nil
nil_seen (sees_nothing e r) q = ap is_nil r
nil_seen (sees_itself e o m) q = absurd (omega (arith, e, q))
nil_seen (sees_alone e i) q = absurd (omega (arith, alone_within e, q))
nil_seen (sees_before e o p i r) q = absurd (omega (arith, e, q))
nil_seen (sees_watched e x i r) q = absurd (omega (arith, e, q))
nil_seen (sees_guarded e x a i r) q = absurd (omega (arith, e, q))
nil_seen (sees_beside e o g p i j r) q = absurd (omega (arith, beside_above e, q))

-- a node with no part in front
pub own_follows :
    {words : List ℕ} {k : ℕ} {st : List ℕ} {form : ℕ} (vs : List ℤ) → Sight words k st (in_front words k st) →
    form ≡ (in_front words k st).form → form ≤ itself → Follows words k st vs (own_next form k (length st))
own_follows {words} {k} {st} {form} vs seen e l =
    elim (ℕ_discrete form itself) [
      | yes q ↦
          let own : Leads words k st vs (record { form = form; child = k; from = 0; to = length st }) true =
          own_move (ap (λ n. record { form = n; child = k; from = 0; to = length st }) q) refl (sym e ∙ q) in
          rw (eq-eqb form itself q) own
      | no n ↦
          let z : form ≡ nothing = omega (arith, l, n) in
          rw (ne_eqb form itself n) (nil_seen seen (sym e ∙ z))
    ]

-- the first byte of a part is that part's own
pub own_part : (f : Front) (st : List ℕ) → f.from < f.to → own (part_in f st) ≡ get_or st f.from 0
own_part f st h =
    get_or-take (f.to - f.from) (drop f.from st) 0 0 (omega (arith, h))
    ∙ get_or-drop f.from st 0 0
    ∙ ap (λ i. get_or st i 0) (omega arith)

-- an assignment or an emission is next
pub writes_both : (tag kind : ℕ) → (eqb tag 0 && has_write kind) ≡ true → IsWriter kind × (tag ≡ 0)
writes_both tag kind e = (
  writer_is kind (and_right (eqb tag 0) (has_write kind) e),
  eqb-true tag 0 (and_left (eqb tag 0) (has_write kind) e),
)

-- one whose move is next has it as its form
pub writer_itself :
    (words : List ℕ) (k len : ℕ) (st : List ℕ) → IsWriter (kind_at words k) → own st ≡ 0 →
    (front_of words k (own st) len).form ≡ itself
writer_itself words k len st (inl e) z = front_form words k (own st) len ∙ rw (e, z)
writer_itself words k len st (inr e) z = front_form words k (own st) len ∙ rw (e, z)
