-- What an answer of the reader says of the bytes. Assumes nothing.
use Prim.Native.Nat.{ℕ, ◌-◌, ◌≤◌}
use mathlib.Core.Path.{◌≡◌, refl, sym, ap, ◌∙◌}
use mathlib.Core.List.{List, [], ◌∷◌}
use mathlib.Core.Bool.{Bool, cond, true, false}
use native.Mathlib.Omega.{arith}
use lib.Dec.{eqb}
use lib.ListN.{length, drop, get_or}
use borrow.Author.Tests.{eq-eqb, eqb-true}
use Rattle.laws.proofs.Conds.{cond_left, cond_right}
use Rattle.std.specs.Prelude.{Some, None, Ok, Err}
use Rattle.numbers.specs.declared.Fault.TheVariants as fault
use Rattle.numbers.specs.Refusal.{refusal_numbers}
use Rattle.numbers.specs.declared.Refusal.{Refusal}
use Rattle.numbers.specs.declared.Refusal.TheVariants as refusal
use Rattle.numbers.proofs.Tables.{numbers_table}
use Rattle.frame.specs.Limits.{header_end, greatest_size, keep_alive}
use Rattle.frame.specs.Header.{pdu_size, pdu_type, message_count, count_fault}
use Rattle.frame.specs.Decide.{decide}
use Rattle.frame.specs.declared.Decision.{Decision}
use Rattle.frame.specs.declared.Decision.TheVariants.{Undecided, Faulty, Sound}
use Rattle.frame.specs.Scaffold.{SoundAt}
use Rattle.frame.proofs.Headers.{sound_header}
use Rattle.frame.proofs.Sounds.{sound_at}
use Rattle.fields.specs.Fields.{heartbeat_of}
use Rattle.reader.specs.Numbers.{heartbeat_numbers, message_numbers, reading_numbers}
use Rattle.reader.specs.Read.{data_of, message_of, read_by, read_of}
use Rattle.reader.specs.declared.Message.{Message}
use Rattle.reader.proofs.Tells.{first_told}
use Rattle.lister.specs.Scaffold.{fault_of, fault_by}

-- a keep-alive without a fault has messageCount 1
keep_count : (kind count : ℕ) → kind ≡ keep_alive → count_fault kind count ≡ None → count ≡ 1
unfolding count_fault
keep_count kind count k e =
    let p = cond_right (eqb count 0) (Some fault.Count) _ None e (λ z. let y : ◌≡◌ {A = ℕ} 0 1 = cc in omega arith) in
    let q = rw (eq-eqb kind keep_alive k) at p.1 in
    let r = cond_left (eqb count 1) None (Some fault.Count) None q (λ z. let y : ◌≡◌ {A = ℕ} 0 1 = cc in omega arith) in
    eqb-true count 1 r.0

-- the type and messageCount that the reader tells are the header's
pub record Told (s ms : List ℕ) : Type 0 where
  pub kind : get_or ms 0 0 ≡ pdu_type s
  pub count : get_or ms 1 0 ≡ message_count s

message_told_lem : (s : List ℕ) (n : ℕ) → SoundAt s n → Told s (message_of s n)
unfolding message_of
message_told_lem s n w = go (eqb (pdu_type s) keep_alive) refl
  where
    go : (b : Bool) → eqb (pdu_type s) keep_alive ≡ b
        → Told s (cond b (keep_alive ∷ 1 ∷ heartbeat_numbers (heartbeat_of (data_of s n))) (pdu_type s ∷ message_count s ∷ []))
    go true e =
        let k = eqb-true (pdu_type s) keep_alive e in
        record { kind = sym k; count = sym (keep_count (pdu_type s) (message_count s) k (sound_header s w.header).count) }
    go false e = record { kind = refl; count = refl }

module _ (s : List ℕ) where
  pub read_sound : (m : Message) (n : ℕ) → reading_numbers (Ok (record { message = m; length = n })) ≡ read_of s → decide s ≡ Sound n
  unfolding read_of read_by reading_numbers
  read_sound m n e = go (decide s) e
    where
      go : (d : Decision) → reading_numbers (Ok (record { message = m; length = n })) ≡ read_by d s → d ≡ Sound n
      go Undecided q = absurd (omega (arith, ap (λ (l : List ℕ). get_or l 0 0) q))
      go (Faulty f k) q = absurd (omega (arith, ap (λ (l : List ℕ). get_or l 0 0) q))
      go (Sound k) q = ap Sound (sym (ap (λ (l : List ℕ). get_or l 1 0) q))

  pub read_told : (m : Message) (n : ℕ) → reading_numbers (Ok (record { message = m; length = n })) ≡ read_of s → Told s (message_numbers m)
  unfolding read_of read_by reading_numbers
  read_told m n e =
      let d = read_sound m n e in
      let q : message_numbers m ≡ message_of s n = ap (drop 2) (e ∙ ap (λ (x : Decision). read_by x s) d) in
      rw q (message_told_lem s n (sound_at s n d))

  -- the length that the reader tells
  pub read_size : (m : Message) (n : ℕ) → reading_numbers (Ok (record { message = m; length = n })) ≡ read_of s → (header_end ≤ n) × (n ≤ length s) × (n - 1 ≡ pdu_size s) × (pdu_size s ≤ greatest_size)
  read_size m n e =
      let w = sound_at s n (read_sound m n e) in
      let h = sound_header s w.header in
      omega (arith, w.low, w.high, w.size, h.high)

  -- what a refusal tells: no sound message, and the fault if there is one
  pub read_refused : (r : Refusal) → reading_numbers (Err r) ≡ read_of s → ((n : ℕ) → decide s ≡ Sound n → ⊥) × (fault_of r ≡ fault_by (decide s))
  unfolding read_of read_by reading_numbers fault_by
  read_refused r e = go (decide s) e
    where
      go : (d : Decision) → refusal_numbers r ≡ read_by d s → ((n : ℕ) → d ≡ Sound n → ⊥) × (fault_of r ≡ fault_by d)
      go Undecided q =
          let y : r ≡ refusal.Short = numbers_table.names.refusal_told r refusal.Short q in
          (λ n z. let o : ◌≡◌ {A = ℕ} 0 1 = cc in omega arith, ap fault_of y)
      go (Faulty f k) q =
          let y : r ≡ refusal.Fault f = numbers_table.names.refusal_told r (refusal.Fault f) q in
          (λ n z. let o : ◌≡◌ {A = ℕ} 0 1 = cc in omega arith, ap fault_of y)
      go (Sound k) q = absurd (numbers_table.names.refused r (sym (first_told r) ∙ ap (λ (l : List ℕ). get_or l 0 0) q))
