-- The ways in which bytes decide, and the laws of the deciding byte. Assumes nothing.
use Prim.Native.Nat.{ℕ, ◌+◌, ◌≤◌, ◌<◌}
use mathlib.Core.Path.{◌≡◌, refl, sym, ap, ◌∙◌}
use mathlib.Core.List.{List, ◌++◌}
use mathlib.Core.Bool.{Bool, cond, true, false, true≢false, false≢true}
use native.Mathlib.Omega.{arith}
use lib.Dec.{ltb, eqb}
use lib.ListN.{length, take, drop, get_or, length-take, take-append-drop}
use lib.Seq.{get_or-take, take-take, take-append-le, length-take-le}
use borrow.Author.Tests.{eq-eqb, ne_eqb, lt-ltb, le-ltb, ltb-true, ltb-false, eqb-true, eqb-false}
use Rattle.laws.proofs.Conds.{cond_right}
use Rattle.octets.specs.Numbers.{be16_at, be32_at}
use Rattle.std.specs.Prelude.{Option, Some, None}
use Rattle.numbers.specs.declared.Fault.{Fault}
use Rattle.numbers.specs.declared.Fault.TheVariants as fault
use Rattle.frame.specs.Limits.{sync, header_end, greatest_size}
use Rattle.frame.specs.Header.{pdu_size, pdu_type, message_count, message_length, header_fault}
use Rattle.frame.specs.Decide.{data_sound, decide_data, decide_header, decide, taken, settled}
use Rattle.frame.specs.Deciding.{Deciding}
use Rattle.frame.specs.Scaffold.{has_header, rest_by}
use Rattle.frame.specs.declared.Decision.{Decision}
use Rattle.frame.specs.declared.Decision.TheVariants.{Undecided, Faulty, Sound}
use Rattle.frame.proofs.Headers.{sound_header}

-- each way to a decision, with the tests on it
pub data Way (s : List ℕ) : Decision → Type 0 where
  none : length s ≡ 0 → Way s Undecided
  start : 0 < length s → (get_or s 0 0 ≡ sync → ⊥) → Way s (Faulty fault.Start 1)
  few : 0 < length s → get_or s 0 0 ≡ sync → length s < header_end → Way s Undecided
  header : (f : Fault) → get_or s 0 0 ≡ sync → header_end ≤ length s → header_fault s ≡ Some f → Way s (Faulty f header_end)
  part : get_or s 0 0 ≡ sync → header_end ≤ length s → header_fault s ≡ None → length s < message_length s → Way s Undecided
  whole : get_or s 0 0 ≡ sync → header_end ≤ length s → header_fault s ≡ None → message_length s ≤ length s
      → Way s (decide_data (take (message_length s) s))

pub way : (s : List ℕ) → Way s (decide s)
unfolding decide decide_header
way s =
    go (eqb (length s) 0) refl (eqb (get_or s 0 0) sync) refl (ltb (length s) header_end) refl (header_fault s) refl
    (ltb (length s) (message_length s)) refl
  where
    go : (a : Bool) → eqb (length s) 0 ≡ a → (b : Bool) → eqb (get_or s 0 0) sync ≡ b → (h : Bool) → ltb (length s) header_end ≡ h
        → (f : Option Fault) → header_fault s ≡ f → (m : Bool) → ltb (length s) (message_length s) ≡ m
        → Way s (cond a Undecided (cond b (cond h Undecided (decide_header f s)) (Faulty fault.Start 1)))
    go true ea b eb h eh f ef m em = none (eqb-true _ _ ea)
    go false ea false eb h eh f ef m em =
        let nz = eqb-false (length s) 0 ea in
        start (omega arith) (eqb-false _ _ eb)
    go false ea true eb true eh f ef m em =
        let nz = eqb-false (length s) 0 ea in
        few (omega arith) (eqb-true _ _ eb) (ltb-true _ _ eh)
    go false ea true eb false eh (Some f) ef m em = header f (eqb-true _ _ eb) (ltb-false _ _ eh) ef
    go false ea true eb false eh None ef true em = rw em (part (eqb-true _ _ eb) (ltb-false _ _ eh) ef (ltb-true _ _ em))
    go false ea true eb false eh None ef false em = rw em (whole (eqb-true _ _ eb) (ltb-false _ _ eh) ef (ltb-false _ _ em))

-- a way leads to one decision
pub way_back : (s : List ℕ) (d : Decision) → Way s d → decide s ≡ d
unfolding decide decide_header
way_back s d (none e) = simp (eq-eqb (length s) 0 e)
way_back s d (start p n) = simp (ne_eqb (length s) 0 (λ e. omega arith), ne_eqb (get_or s 0 0) sync n)
way_back s d (few p e h) = simp (ne_eqb (length s) 0 (λ e. omega arith), eq-eqb (get_or s 0 0) sync e, lt-ltb (length s) header_end h)
way_back s d (header x e h f) =
    simp (ne_eqb (length s) 0 (λ e. omega arith), eq-eqb (get_or s 0 0) sync e, le-ltb (length s) header_end h, f)
way_back s d (part e h f m) =
    simp (ne_eqb (length s) 0 (λ e. omega arith), eq-eqb (get_or s 0 0) sync e, le-ltb (length s) header_end h, f, lt-ltb (length s) (message_length s) m)
way_back s d (whole e h f m) =
    simp (ne_eqb (length s) 0 (λ e. omega arith), eq-eqb (get_or s 0 0) sync e, le-ltb (length s) header_end h, f, le-ltb (length s) (message_length s) m)

-- where a header stands it decides, or the message's last byte does
pub headed : (s : List ℕ) → has_header s ≡ true → (header_end ≤ length s) × (decide s ≡ decide_header (header_fault s) s)
unfolding has_header decide
headed s e =
    let p = cond_right (ltb (length s) header_end) false (eqb (get_or s 0 0) sync) true e false≢true in
    let l = ltb-false (length s) header_end p.0 in
    (l, simp (ne_eqb (length s) 0 (λ z. omega arith), eq-eqb (get_or s 0 0) sync (eqb-true _ _ p.1), le-ltb (length s) header_end l))

-- else the first byte is wrong, or there are too few
pub unheaded : (s : List ℕ) → has_header s ≡ false → get_or s 0 0 ≡ sync → length s < header_end
unfolding has_header
unheaded s e f = go (ltb (length s) header_end) refl (rw (eq-eqb (get_or s 0 0) sync f) at e)
  where
    go : (b : Bool) → ltb (length s) header_end ≡ b → cond b false true ≡ false → length s < header_end
    go true q z = ltb-true _ _ q
    go false q z = absurd (true≢false z)

-- and no entry is found
rest_none : (s : List ℕ) (i : ℕ) (d : Decision) → Way s d → has_header s ≡ false → rest_by d s i ≡ 0
unfolding rest_by
rest_none s i d (none e) u = refl
rest_none s i d (start p n) u = refl
rest_none s i d (few p e h) u = refl
rest_none s i d (header x e h f) u = refl
rest_none s i d (part e h f m) u = refl
rest_none s i d (whole e h f m) u = absurd (omega (arith, unheaded s u e))

pub unheaded_rest : (s : List ℕ) (i : ℕ) → has_header s ≡ false → rest_by (decide s) s i ≡ 0
unheaded_rest s i u = rest_none s i (decide s) (way s) u

-- a whole message is decided by its last byte
pub data_settled : (m : List ℕ) → settled (decide_data m) ≡ true
unfolding decide_data settled
data_settled m = go (data_sound (pdu_type m) (message_count m) (drop header_end m))
  where
    go : (b : Bool) → settled (cond b (Sound (length m)) (Faulty fault.Data (length m))) ≡ true
    go true = refl
    go false = refl

pub data_taken : (m : List ℕ) → taken (decide_data m) ≡ length m
unfolding decide_data taken
data_taken m = go (data_sound (pdu_type m) (message_count m) (drop header_end m))
  where
    go : (b : Bool) → taken (cond b (Sound (length m)) (Faulty fault.Data (length m))) ≡ length m
    go true = refl
    go false = refl

-- s and t begin with the same n bytes, and s has them all
module _ (n : ℕ) (s t : List ℕ) (e : take n t ≡ take n s) (l : n ≤ length s) where
  same_length : n ≤ length t
  same_length =
      let q : length (take n t) ≡ n = ap length e ∙ length-take-le n s l in
      omega (arith, length-take n t)

  same_byte : (i : ℕ) → i < n → get_or t i 0 ≡ get_or s i 0
  same_byte i h = sym (get_or-take n t i 0 h) ∙ ap (λ (u : List ℕ). get_or u i 0) e ∙ get_or-take n s i 0 h

  module _ (h : header_end ≤ n) where
    same_size : pdu_size t ≡ pdu_size s
    unfolding be32_at
    same_size = rw (same_byte 3 (omega arith), same_byte 4 (omega arith), same_byte 5 (omega arith), same_byte 6 (omega arith))

    same_fault : header_fault t ≡ header_fault s
    unfolding header_fault be16_at
    same_fault =
        rw (same_size, same_byte 1 (omega arith), same_byte 2 (omega arith), same_byte 7 (omega arith), same_byte 8 (omega arith), same_byte 9 (omega arith))

-- the bytes up to the deciding one decide, whatever follows
same_decision : (s t : List ℕ) (d : Decision) → Way s d → settled d ≡ true → take (taken d) t ≡ take (taken d) s → decide t ≡ d
unfolding settled taken
same_decision s t d (none e) u q = absurd (true≢false (sym u))
same_decision s t d (start p n) u q =
    way_back t d (start (same_length 1 s t q (omega arith)) (λ e. n (sym (same_byte 1 s t q (omega arith) 0 (omega arith)) ∙ e)))
same_decision s t d (few p e h) u q = absurd (true≢false (sym u))
same_decision s t d (header x e h f) u q =
    let g = same_fault header_end s t q h (omega arith) in
    let b = same_byte header_end s t q h 0 (omega arith) in
    way_back t (Faulty x header_end) (header x (b ∙ e) (same_length header_end s t q h) (g ∙ f))
same_decision s t d (part e h f m) u q = absurd (true≢false (sym u))
same_decision s t d (whole e h f m) u q =
    let n = message_length s in
    let k : header_end ≤ n = omega (arith, (sound_header s f).low) in
    let r : take n t ≡ take n s = rw (data_taken (take n s), length-take-le n s m) at q in
    let z : message_length t ≡ n = ap (λ (x : ℕ). x + 1) (same_size n s t r m k) in
    let g = same_fault n s t r m k in
    let b = same_byte n s t r m 0 (omega arith) in
    let w = same_length n s t r m in
    way_back t (decide_data (take (message_length t) t)) (whole (b ∙ e) (omega arith) (g ∙ f) (omega arith)) ∙ rw (z, r)

taken_some : (s : List ℕ) (d : Decision) → Way s d → settled d ≡ true → 0 < taken d
unfolding settled taken
taken_some s d (none e) u = absurd (true≢false (sym u))
taken_some s d (start p n) u = omega arith
taken_some s d (few p e h) u = absurd (true≢false (sym u))
taken_some s d (header x e h f) u = omega arith
taken_some s d (part e h f m) u = absurd (true≢false (sym u))
taken_some s d (whole e h f m) u = rw (data_taken (take (message_length s) s), length-take-le (message_length s) s m) (omega arith)

taken_within : (s : List ℕ) (d : Decision) → Way s d → taken d ≤ length s
unfolding taken
taken_within s d (none e) = omega arith
taken_within s d (start p n) = omega arith
taken_within s d (few p e h) = omega arith
taken_within s d (header x e h f) = omega arith
taken_within s d (part e h f m) = omega arith
taken_within s d (whole e h f m) = rw (data_taken (take (message_length s) s), length-take-le (message_length s) s m) m

undecided_short : (s : List ℕ) (d : Decision) → Way s d → d ≡ Undecided → length s ≤ greatest_size
unfolding settled
undecided_short s d (none e) u = omega arith
undecided_short s d (start p n) u = absurd (true≢false (ap settled u))
undecided_short s d (few p e h) u = omega arith
undecided_short s d (header x e h f) u = absurd (true≢false (ap settled u))
undecided_short s d (part e h f m) u = omega (arith, (sound_header s f).high)
undecided_short s d (whole e h f m) u = absurd (true≢false (sym (data_settled (take (message_length s) s)) ∙ ap settled u))

pub unsettled : (d : Decision) → settled d ≡ false → d ≡ Undecided
unfolding settled
unsettled Undecided e = refl
unsettled (Faulty f n) e = absurd (true≢false e)
unsettled (Sound n) e = absurd (true≢false e)

pub decide_lasting : (s t : List ℕ) → settled (decide s) ≡ true → decide (s ++ t) ≡ decide s
decide_lasting s t u =
    same_decision s (s ++ t) (decide s) (way s) u (take-append-le (taken (decide s)) s t (taken_within s (decide s) (way s)))

decide_before : (s : List ℕ) (n : ℕ) → n < taken (decide s) → decide (take n s) ≡ Undecided
decide_before s n l = go (settled (decide (take n s))) refl
  where
    go : (b : Bool) → settled (decide (take n s)) ≡ b → decide (take n s) ≡ Undecided
    go true u =
        let g : decide s ≡ decide (take n s) = rw take-append-drop at (decide_lasting (take n s) (drop n s) u) in
        let w = taken_within (take n s) (decide (take n s)) (way (take n s)) in
        absurd (omega (arith, ap taken g, length-take n s))
    go false u = unsettled (decide (take n s)) u

pub deciding : Deciding
deciding =
    record {
      some = λ s. taken_some s (decide s) (way s);
      within = λ s. taken_within s (decide s) (way s);
      lasting = decide_lasting;
      enough = λ s u. same_decision s (take (taken (decide s)) s) (decide s) (way s) u (take-take (taken (decide s)) (taken (decide s)) s (omega arith));
      before = decide_before;
      short = λ s. undecided_short s (decide s) (way s);
    }
