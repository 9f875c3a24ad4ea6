-- 01, 'Script file': 'An owned name is used only inside the body of its declaration, whose own field a doesn't count as
-- a use; a let's expression lies outside it.'
use Rattle.std.specs.Prelude.{Bool, false, not, ◌&&◌, ◌||◌, List, ℕ, eqb, get_or}
use Rattle.prelude.specs.declared.Refusal.{Refusal}
use Rattle.prelude.specs.Search.{any}
use Rattle.prelude.specs.Course.{entry}
use Rattle.layout.specs.Layout.{part_count}
use Rattle.layout.specs.Places.{at_first_part}
use Rattle.layout.specs.Entries.{name_of, is_session, node}
use Rattle.fields.specs.Roles.{is_child, is_use}
use Rattle.fields.specs.Fields.{field_count, field_of}
use Rattle.uses.specs.Uses.{used}

-- part q lies in part p: it is p, or it lies in a part that a field of p uses; `earlier` has this for the parts before p
unfoldable pub lies_in : List ℕ → ℕ → ℕ → Bool
lies_in s q = entry (λ p earlier. eqb q p || any (λ f. get_or earlier (used s p f) false) field_count)

-- part q lies inside the body of the declaration of x: in a child of the node that owns x
unfoldable pub in_body : List ℕ → ℕ → ℕ → Bool
in_body s x q =
    let d : ℕ = node s (name_of s x).owner in
    any (λ f. is_child (field_of s d f).role && lies_in s q (used s d f)) field_count

-- x may be used in part q
abbrev pub in_reach : List ℕ → ℕ → ℕ → Bool
in_reach s x q = is_session s x || in_body s x q

-- field f of part q uses an owned name outside its body
abbrev pub misses_name : List ℕ → ℕ → ℕ → Bool
misses_name s q f = is_use (field_of s q f).role && not (in_reach s (field_of s q f).value q)

unfoldable pub is_out_of_reach : List ℕ → ℕ → Bool
is_out_of_reach s q = any (misses_name s q) field_count

-- row 10: 'owned name outside its body'
unfoldable pub reach_refusal : List ℕ → Refusal
reach_refusal s = at_first_part s 10 (is_out_of_reach s) (part_count s)
