-- The datagram call, case by case. Assumes nothing.
use Prim.Native.Nat.{ℕ}
use mathlib.Core.Path.{◌≡◌, sym, ap, ◌∙◌}
use mathlib.Core.Bool.{Bool, true, false}
use mathlib.Core.List.{List, [], ◌∷◌}
use native.Mathlib.Omega.{arith}
use borrow.Rule.Slice.PartMut.{put_mid}
use lib.ListN.{length, take}
use lib.Seq.{take_all}
use Rattle.laws.proofs.Stores.{sets_all, sets_mid}
use Rattle.octets.specs.Zeros.{zeros}
use Rattle.octets.proofs.Scans.{length_zeros}
use Rattle.mechanism.specs.Datagram.{resets}
use Rattle.area.specs.Area.{area_bytes, area_sound}
use Rattle.endpoint.specs.State.{fresh_state, record_obeys}
use Rattle.numbers.specs.Refusal.{refusal_numbers}
use Rattle.numbers.specs.declared.Refusal.{Refusal}
use Rattle.numbers.specs.declared.Refusal.TheVariants as refusals
use Rattle.endpoint.specs.Outcome.{outcome}
use Rattle.endpoint.specs.declared.Record.{Record}
use Rattle.area.proofs.Lies.{area_long}
use Rattle.reset.specs.Datagram.{restarted, datagram_call}

-- an area of which every byte was lent to be cleared
pub all_cleared : (area p : List ℕ) → length area ≡ area_bytes → p ≡ zeros (length (take area_bytes area)) → put_mid 0 area_bytes area p ≡ zeros (length area)
all_cleared area p e q =
    let z : p ≡ zeros area_bytes = q ∙ ap zeros (ap length (take_all area_bytes area (omega arith)) ∙ e) in
    let l : length p ≡ area_bytes = ap length z ∙ length_zeros area_bytes in
    sets_mid p area 0 area_bytes l (omega arith) ∙ sets_all p area (l ∙ sym e) ∙ z ∙ ap zeros (sym e)

-- each test is false or true as its check found it
module _ (r : Record) (area datagram : List ℕ) where
  pub datagram_bad : record_obeys r ≡ false → (e : Refusal) → e ≡ refusals.BadRecord
      → outcome (refusal_numbers e) r area [] ≡ datagram_call r area datagram
  unfolding datagram_call
  datagram_bad t e q = rw (q, t)

  module _ (t : record_obeys r ≡ true) where
    pub datagram_area : area_sound r.held area ≡ false → (e : Refusal) → e ≡ refusals.BadArea
        → outcome (refusal_numbers e) r area [] ≡ datagram_call r area datagram
    unfolding datagram_call
    datagram_area u e q = rw (q, t, u)

    module _ (u : area_sound r.held area ≡ true) where
      pub area_whole : length area ≡ area_bytes
      area_whole = area_long r.held area u

      -- m is what the mechanism said of the datagram
      pub datagram_nothing : (m : Bool) → m ≡ resets r.device.mechanism datagram → m ≡ false
          → outcome (0 ∷ 0 ∷ []) r area [] ≡ datagram_call r area datagram
      unfolding datagram_call
      datagram_nothing m q v = rw (t, u, ← q, v)

      pub datagram_done : (m : Bool) → m ≡ resets r.device.mechanism datagram → m ≡ true → (z : Record) (next : List ℕ)
          → z ≡ fresh_state r.device.reading → next ≡ zeros (length area) → outcome (0 ∷ 1 ∷ []) z next [] ≡ datagram_call r area datagram
      unfolding datagram_call restarted
      datagram_done m q v z next x y = rw (t, u, ← q, v, x, y, area_whole)
