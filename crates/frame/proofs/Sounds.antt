-- What a sound message is, both ways. Assumes nothing.
use Prim.Native.Nat.{ℕ, ◌≤◌}
use mathlib.Core.Path.{◌≡◌, sym, ap, ◌∙◌}
use mathlib.Core.List.{List}
use mathlib.Core.Bool.{true, true≢false}
use native.Mathlib.Omega.{arith}
use lib.ListN.{length, take, drop}
use lib.Seq.{get_or-take, length-take-le}
use Rattle.octets.specs.Numbers.{be16_at, be32_at}
use Rattle.laws.proofs.Conds.{cond_left}
use Rattle.numbers.specs.declared.Fault.TheVariants as fault
use Rattle.frame.specs.Limits.{header_end}
use Rattle.frame.specs.Header.{pdu_size, pdu_type, message_count, message_length}
use Rattle.frame.specs.Decide.{data_sound, decide_data, decide, settled}
use Rattle.frame.specs.Scaffold.{SoundAt}
use Rattle.frame.specs.declared.Decision.{Decision}
use Rattle.frame.specs.declared.Decision.TheVariants.{Faulty, Sound}
use Rattle.frame.proofs.Headers.{sound_header}
use Rattle.frame.proofs.Ways.{Way, none, start, few, header, part, whole, way, way_back}

-- a whole message's type, count and size are those of its header
pub type_take : (n : ℕ) (s : List ℕ) → header_end ≤ n → pdu_type (take n s) ≡ pdu_type s
type_take n s h = get_or-take n s 7 0 (omega arith)

pub count_take : (n : ℕ) (s : List ℕ) → header_end ≤ n → message_count (take n s) ≡ message_count s
unfolding be16_at
count_take n s h = rw (get_or-take n s 8 0 (omega arith), get_or-take n s 9 0 (omega arith))

pub size_take : (n : ℕ) (s : List ℕ) → header_end ≤ n → pdu_size (take n s) ≡ pdu_size s
unfolding be32_at
size_take n s h = rw (get_or-take n s 3 0 (omega arith), get_or-take n s 4 0 (omega arith), get_or-take n s 5 0 (omega arith), get_or-take n s 6 0 (omega arith))

sound_way : (s : List ℕ) (n : ℕ) (d : Decision) → Way s d → d ≡ Sound n → SoundAt s n
unfolding settled decide_data
sound_way s n d (none e) q = absurd (true≢false (sym (ap settled q)))
sound_way s n d (start p x) q = absurd (let z : ◌≡◌ {A = ℕ} 0 1 = cc in omega arith)
sound_way s n d (few p e h) q = absurd (true≢false (sym (ap settled q)))
sound_way s n d (header y e h f) q = absurd (let z : ◌≡◌ {A = ℕ} 0 1 = cc in omega arith)
sound_way s n d (part e h f m) q = absurd (true≢false (sym (ap settled q)))
sound_way s n d (whole e h f m) q =
    let k = message_length s in
    let w = take k s in
    let low : header_end ≤ k = omega (arith, (sound_header s f).low) in
    let p = cond_left (data_sound (pdu_type w) (message_count w) (drop header_end w)) (Sound (length w)) (Faulty fault.Data (length w)) (Sound n) q (λ x. let z : ◌≡◌ {A = ℕ} 0 1 = cc in omega arith) in
    let g = p.1 in
    let l : length w ≡ n = cc in
    let i : n ≡ k = sym l ∙ length-take-le k s m in
    record {
      first = e;
      header = f;
      size = i;
      low = omega arith;
      high = omega arith;
      body = rw (i, ← type_take k s low, ← count_take k s low) p.0;
    }

pub sound_at : (s : List ℕ) (n : ℕ) → decide s ≡ Sound n → SoundAt s n
sound_at s n e = sound_way s n (decide s) (way s) e

pub at_sound : (s : List ℕ) (n : ℕ) → SoundAt s n → decide s ≡ Sound n
unfolding decide_data
at_sound s n w =
    let k = message_length s in
    let low : header_end ≤ k = omega (arith, w.size, w.low) in
    let high : k ≤ length s = omega (arith, w.size, w.high) in
    let b : data_sound (pdu_type (take k s)) (message_count (take k s)) (drop header_end (take k s)) ≡ true =
    rw (type_take k s low, count_take k s low, ← w.size) w.body in
    way_back s (decide_data (take k s)) (whole w.first (omega (arith, w.low, w.high)) w.header high) ∙ simp b (ap Sound (length-take-le k s high ∙ sym w.size))
