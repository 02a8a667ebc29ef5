-- Laws of the header. Assumes nothing.
use Prim.Native.Nat.{ℕ, ◌≤◌}
use mathlib.Core.Path.{◌≡◌, sym}
use mathlib.Core.List.{List}
use lib.Dec.{ltb, eqb}
use borrow.Author.Tests.{ltb-false, eqb-true}
use Rattle.laws.proofs.Conds.{cond_left, cond_right}
use Rattle.std.specs.Prelude.{Some, None}
use Rattle.std.proofs.lemmas.Option.{none-some}
use Rattle.numbers.specs.declared.Fault.TheVariants as fault
use Rattle.frame.specs.Limits.{version, least_size, greatest_size, keep_alive}
use Rattle.frame.specs.Header.{protocol_version, pdu_size, pdu_type, message_count, count_fault, fields_fault, header_fault}

-- what a header without a fault says
pub record SoundHeader (s : List ℕ) : Type 0 where
  pub protocol : protocol_version s ≡ version
  pub low : least_size ≤ pdu_size s
  pub high : pdu_size s ≤ greatest_size
  pub kind : pdu_type s ≤ keep_alive
  pub count : count_fault (pdu_type s) (message_count s) ≡ None

pub sound_header : (s : List ℕ) → header_fault s ≡ None → SoundHeader s
unfolding header_fault fields_fault
sound_header s h =
    let p = cond_left (eqb (protocol_version s) version) _ (Some fault.Version) None h (λ e. none-some fault.Version (sym e)) in
    let q = cond_right (ltb (pdu_size s) least_size) (Some fault.Size) _ None p.1 (λ e. none-some fault.Size (sym e)) in
    let r = cond_right (ltb greatest_size (pdu_size s)) (Some fault.Size) _ None q.1 (λ e. none-some fault.Size (sym e)) in
    let t = cond_right (ltb keep_alive (pdu_type s)) (Some fault.Type) (count_fault (pdu_type s) (message_count s)) None r.1 (λ e. none-some fault.Type (sym e)) in
    record {
      protocol = eqb-true (protocol_version s) version p.0;
      low = ltb-false (pdu_size s) least_size q.0;
      high = ltb-false greatest_size (pdu_size s) r.0;
      kind = ltb-false keep_alive (pdu_type s) t.0;
      count = t.1;
    }
