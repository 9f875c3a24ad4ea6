-- Joins and meets are monotone.
use Rattle.lattice.specs.Lattice.{Lattice, Laws}
use Rattle.language.specs.Typing.{Below}

module _ {L : Type 0} (𝓛 : Lattice L) (laws : Laws 𝓛) where
  pub via : {a b c : L} → Below 𝓛 a b → Below 𝓛 b c → Below 𝓛 a c
  via h k = laws.transitive _ _ _ h k

  pub joins : {a b c d : L} → Below 𝓛 a c → Below 𝓛 b d → Below 𝓛 (𝓛.join a b) (𝓛.join c d)
  joins {a} {b} {c} {d} h k =
      laws.join_least a b _ (via h (laws.join_left c d)) (via k (laws.join_right c d))

  pub meets : {a b c d : L} → Below 𝓛 a c → Below 𝓛 b d → Below 𝓛 (𝓛.meet a b) (𝓛.meet c d)
  meets {a} {b} {c} {d} h k =
      laws.meet_greatest c d _ (via (laws.meet_left a b) h) (via (laws.meet_right a b) k)
