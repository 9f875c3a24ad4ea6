-- A run is a path of the report's steps that ends where 01 says, and the only one.
use Prim.Native.Nat.{ℕ, zero, suc, ◌+◌, ◌-◌, ◌≤◌}
use native.Mathlib.Nat.{zero-add, suc-add}
use native.Mathlib.Omega.{arith}
use mathlib.Core.Path.{◌≡◌, refl, ap, ap₂, sym, ◌∙◌}
use mathlib.Core.Bool.{Bool}
use mathlib.Core.Option.{Option, none, some}
use mathlib.Core.List.{List, [], ◌∷◌, ◌++◌, append-nil, Option-to_list}
use lib.ListN.{length}
use Rattle.prelude.proofs.Bools.{by_cases}
use Rattle.language.specs.Syntax.{Names}
use Rattle.language.specs.Steps.{Output, Inputs}
use Rattle.language.specs.Calls.{Line, Ending, log_full, System, Run, Stop, called_for, output, next, returned, halts, behind, noted, reach, run}
use Rattle.language.specs.Instants.{Step}
use Rattle.language.specs.Paths.{Path, here, more, RunEnds, NIL-REACHED, LIMIT-REACHED, LOG-FULL, IsRun}
use Rattle.language.proofs.Figures.{step_is, step_only, nil_rests}

module _ {L : Type 0} (names : Names L) (inputs : Inputs) (seen : ℕ → Bool) where
  -- where a path of the report's steps stops, as `IsRun` says it of what a run returns
  pub record IsStop (n room : ℕ) (at : System L) (r : Stop L) : Type 0 where
    pub made : ℕ
    pub path : Path names inputs seen made at r.lines r.at
    pub in_limit : made ≤ n
    pub in_room : length r.lines ≤ room
    pub why : RunEnds names inputs seen n room r.at r.ending made (length r.lines)

  -- why it ends depends on how many steps and lines are left
  left_same :
      {n n' room room' made made' lines lines' : ℕ} {at : System L} {e : Ending} →
      made + n' ≡ made' + n → lines + room' ≡ lines' + room →
      RunEnds names inputs seen n room at e made lines → RunEnds names inputs seen n' room' at e made' lines'
  left_same h k (NIL-REACHED z) = NIL-REACHED z
  left_same {n' = n'} {made' = made'} h k (LIMIT-REACHED z) =
      let e : n' ≡ made' = omega arith in rw (← e) (LIMIT-REACHED z)
  left_same {room' = room'} {made' = made'} {lines' = lines'} h k (LOG-FULL l d c) =
      let e : room' ≡ lines' = omega arith in rw (← e) (LOG-FULL {made = made'} (omega arith) d c)

  at_once : (n room : ℕ) (at : System L) (e : Ending) → RunEnds names inputs seen n room at e 0 0 → IsStop n room at (halts e at)
  at_once n room at e h = record { made = 0; path = here; in_limit = omega arith; in_room = omega arith; why = h }

  -- a step that calls for this line, before a run
  after :
      (c : Option Line) (n room : ℕ) (at mid : System L) (o : Output) (go : ℕ → Stop L) →
      called_for seen at o ≡ c → Step names inputs at o mid → ((left : ℕ) → IsStop n left mid (go left)) →
      IsStop (suc n) room at (noted c room go (halts log_full at))
  unfolding noted Option-to_list
  after none n room at mid o go c d f =
      let h = f room in
      record {
        made = suc h.made;
        path = rw c at (more d h.path);
        in_limit = omega (arith, h.in_limit);
        in_room = h.in_room;
        why = left_same (omega arith) (omega arith) h.why;
      }
  after (some l) n zero at mid o go c d f =
      at_once (suc n) zero at log_full (LOG-FULL {made = 0} (omega arith) d c)
  after (some l) n (suc room) at mid o go c d f =
      let h = f room in
      record {
        made = suc h.made;
        path = rw c at (more d h.path);
        in_limit = omega (arith, h.in_limit);
        in_room = omega (arith, h.in_room);
        why = left_same (omega arith) (omega arith) h.why;
      }

  pub reach_is : (n room : ℕ) (at : System L) → IsStop n room at (reach names inputs seen n room at)
  unfolding reach
  reach_is zero room at =
      by_cases (IsStop zero room at) _
      (λ h. at_once zero room at _ (NIL-REACHED h))
      (λ h. at_once zero room at _ (LIMIT-REACHED h))
  reach_is (suc n) room at =
      by_cases (IsStop (suc n) room at) _
      (λ h. at_once (suc n) room at _ (NIL-REACHED h))
      (λ h.
      after _ n room at (next names inputs at) (output names inputs at) _ refl (step_is names inputs at h)
      (λ left. reach_is n left (next names inputs at)))

  -- a run with a step to make
  abbrev goes : Option Line → ℕ → ℕ → System L → System L → Stop L
  goes c n room at mid = noted c room (λ left. reach names inputs seen n left mid) (halts log_full at)

  reach_goes :
      (n room : ℕ) (at mid : System L) (o : Output) → Step names inputs at o mid →
      goes (called_for seen at o) n room at mid ≡ reach names inputs seen (suc n) room at
  unfolding reach
  reach_goes n room at mid o d =
      by_cases
      (λ r. goes (called_for seen at o) n room at mid ≡ r)
      _
      (λ h. absurd (nil_rests names inputs at h d))
      (λ h.
      let same = step_only names inputs at d in
      sym (ap₂ (λ o' mid'. goes (called_for seen at o') n room at mid') same.0 same.1))

  follows_line :
      (c : Option Line) (m n room : ℕ) (at mid end : System L) (ls : List Line) →
      ((room : ℕ) → reach names inputs seen (m + n) (length ls + room) mid ≡ behind ls (reach names inputs seen n room end)) →
      goes c (m + n) (length (Option-to_list c ++ ls) + room) at mid
      ≡ behind (Option-to_list c ++ ls) (reach names inputs seen n room end)
  unfolding Option-to_list noted
  follows_line none m n room at mid end ls f = f room
  follows_line (some l) m n room at mid end ls f = rw suc-add (ap (behind (l ∷ [])) (f room))

  -- a run follows every path for which it has steps and room
  pub reach_follows :
      {m : ℕ} {at end : System L} {ls : List Line} → Path names inputs seen m at ls end → (n room : ℕ) →
      reach names inputs seen (m + n) (length ls + room) at ≡ behind ls (reach names inputs seen n room end)
  reach_follows here n room = rw (zero-add n, zero-add room)
  reach_follows (more {n = m} {at = at} {mid = mid} {end = end} {o = o} {ls = ls} d p) n room =
      rw suc-add
      (sym (reach_goes (m + n) _ at mid o d)
      ∙ follows_line (called_for seen at o) m n room at mid end ls (λ left. reach_follows p n left))

  -- and it halts where there is a reason to end
  reach_halts :
      (k j : ℕ) {n room made lines : ℕ} {at : System L} {e : Ending} → made + k ≡ n → lines + j ≡ room →
      RunEnds names inputs seen n room at e made lines → reach names inputs seen k j at ≡ halts e at
  unfolding reach noted
  reach_halts zero j p q (NIL-REACHED h) = rw h
  reach_halts zero j p q (LIMIT-REACHED h) = rw h
  reach_halts zero j p q (LOG-FULL l d c) = absurd (omega arith)
  reach_halts (suc k) j p q (NIL-REACHED h) = rw h
  reach_halts (suc k) j p q (LIMIT-REACHED h) = absurd (omega arith)
  reach_halts (suc k) j {at = at} p q (LOG-FULL {o = o} {to = to} l d c) =
      let z : j ≡ 0 = omega arith in rw z (sym (reach_goes k 0 at to o d) ∙ ap (λ v. goes v k 0 at to) c)

  pub reach_only :
      {made : ℕ} {at last : System L} {ls : List Line} → Path names inputs seen made at ls last → (n room : ℕ) (e : Ending) →
      made ≤ n → length ls ≤ room → RunEnds names inputs seen n room last e made (length ls) →
      record { ending = e; at = last; lines = ls } ≡ reach names inputs seen n room at
  reach_only {made} {at} {last} {ls} p n room e u v w =
      let a : made + (n - made) ≡ n = omega arith in
      let b : length ls + (room - length ls) ≡ room = omega arith in
      ap (λ l. record { ending = e; at = last; lines = l }) (sym (append-nil ls))
      ∙ ap (behind ls) (sym (reach_halts (n - made) (room - length ls) a b w))
      ∙ sym (reach_follows p (n - made) (room - length ls))
      ∙ ap₂ (λ k j. reach names inputs seen k j at) a b

  -- a path counts its steps
  pub path_steps :
      {made : ℕ} {at last : System L} {ls : List Line} → Path names inputs seen made at ls last →
      last.steps ≡ at.steps + made
  path_steps here = omega arith
  path_steps (more {at = at} d rest) =
      omega (arith, path_steps rest, ap (λ (to : System L). to.steps) (step_only names inputs at d).1)

  pub run_is : (n room : ℕ) (at : System L) → IsRun names inputs seen n room at (run names inputs seen n room at)
  run_is n room at =
      let h = reach_is n room at in
      record {
        made = h.made;
        last = (reach names inputs seen n room at).at;
        path = h.path;
        steps = path_steps h.path;
        instants = refl;
        values = refl;
        in_limit = h.in_limit;
        in_room = h.in_room;
        why = h.why;
      }

  -- What is a run by the report's path is the function's.
  pub run_only : (n room : ℕ) (at : System L) (r : Run) → IsRun names inputs seen n room at r → r ≡ run names inputs seen n room at
  run_only n room at r h =
      (λ i.
      record {
        ending = r.ending;
        steps = (h.steps ∙ sym (path_steps h.path)) i;
        instants = h.instants i;
        lines = r.lines;
        values = h.values i;
      })
      ∙ ap (returned names) (reach_only h.path n room r.ending h.in_limit h.in_room h.why)
