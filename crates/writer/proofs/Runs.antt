-- What a run of a start and appends leaves. Assumes nothing.
use Prim.Native.Nat.{ℕ, ◌+◌, ◌-◌, ◌≤◌}
use mathlib.Core.Path.{◌≡◌, refl, sym, ap, ◌∙◌}
use mathlib.Core.List.{List, [], ◌∷◌, ◌++◌, append_assoc, append-nil}
use mathlib.Core.Bool.{true}
use native.Mathlib.Omega.{arith}
use lib.ListN.{length, drop, length-append}
use lib.Seq.{drop-append-add, drop-drop}
use Rattle.laws.specs.Lists.{joined}
use Rattle.frame.specs.Header.{message_count}
use Rattle.frame.specs.Entry.{entries_fill}
use Rattle.reader.specs.Read.{data_of}
use Rattle.numbers.specs.Refusal.{not_refused}
use Rattle.layout.specs.Message.{message, at_front}
use Rattle.writer.specs.Write.{start_of, append_of}
use Rattle.writer.specs.Round.{Made, started, appended, entries_of}
use Rattle.layout.proofs.Messages.{length_message}
use Rattle.frame.proofs.Entries.{well_kind}
use Rattle.writer.proofs.Heads.{Holds}
use Rattle.writer.proofs.Readings.{front_entries, grown_list, start_way, append_way}

-- a longer message over a shorter one
pub front_twice : (m l buf : List ℕ) → length m ≤ length l → at_front l (at_front m buf) ≡ at_front l buf
unfolding at_front
front_twice m l buf h =
    let d : length l ≡ length m + (length l - length m) = omega arith in
    let r = drop (length m) buf in
    let q : drop (length l) (m ++ r) ≡ drop (length l) buf =
    ap (λ (k : ℕ). drop k (m ++ r)) d ∙ drop-append-add m r (length l - length m) ∙ drop-drop (length l - length m) (length m) buf
    ∙ ap (λ (k : ℕ). drop k buf) (sym d) in
    ap (λ (x : List ℕ). l ++ x) q

joined_more : (es : List (List ℕ)) (e : List ℕ) → joined (es ++ (e ∷ [])) ≡ joined es ++ e
joined_more [] e = append-nil e
joined_more (d ∷ es) e = ap (λ (x : List ℕ). d ++ x) (joined_more es e) ∙ sym (append_assoc d (joined es) e)

-- what a run of a start and appends leaves
pub record Run (buf : List ℕ) (kind count : ℕ) (t : List ℕ) (n : ℕ) (after : List ℕ) : Type 0 where
  pub fill : entries_fill count kind t ≡ true
  pub size : n ≡ length t + 10
  pub front : after ≡ at_front (message kind count t) buf
  pub holds : Holds after n kind count t

start_run : (buf : List ℕ) (kind : ℕ) (e : List ℕ) (n : ℕ) → (start_of buf kind e).answer ≡ not_refused ∷ n ∷ []
    → Run buf kind 1 e n (start_of buf kind e).buffer
start_run buf kind e n h =
    let w = start_way buf kind e n h in
    let k = well_kind kind e w.0 in
    record {
      fill = k.1;
      size = w.1.size;
      front = w.1.after;
      holds = rw (w.1.after, w.1.size) (front_entries buf kind 1 e w.1.small k.0 (omega arith) k.1);
    }

append_run : (buf : List ℕ) (kind c : ℕ) (t : List ℕ) (m : ℕ) (before e : List ℕ) (n : ℕ) → Run buf kind c t m before
    → (append_of before kind e).answer ≡ not_refused ∷ n ∷ [] → Run buf kind (c + 1) (t ++ e) n (append_of before kind e).buffer
append_run buf kind c t m before e n r h =
    let w = append_way before kind e n h in
    let k = well_kind kind e w.well in
    let hs = r.holds.sound in
    let ws = w.sound in
    let same : w.length_before ≡ m = cc in
    let data_is : data_of before w.length_before ≡ t = ap (data_of before) same ∙ r.holds.body in
    let big : message kind (message_count before + 1) (data_of before w.length_before ++ e) ≡ message kind (c + 1) (t ++ e) =
    ap (λ (x : ℕ). message kind (x + 1) (data_of before w.length_before ++ e)) r.holds.number
    ∙ ap (λ (x : List ℕ). message kind (c + 1) (x ++ e)) data_is in
    let l : length (data_of before w.length_before ++ e) ≡ length (t ++ e) = ap (λ (x : List ℕ). length (x ++ e)) data_is in
    let f = (grown_list c kind kind t e (entries_of c kind t) refl refl r.fill k.1).1 in
    let z : n ≡ length (t ++ e) + 10 = omega (arith, w.wrote.size) in
    let a : (append_of before kind e).buffer ≡ at_front (message kind (c + 1) (t ++ e)) before =
    w.wrote.after ∙ ap (λ (x : List ℕ). at_front x before) big in
    record {
      fill = f;
      size = z;
      front =
          a ∙ ap (at_front (message kind (c + 1) (t ++ e))) r.front
          ∙ front_twice (message kind c t) (message kind (c + 1) (t ++ e)) buf
          (omega (arith, length_message kind c t, length_message kind (c + 1) (t ++ e), length-append t e));
      holds = rw (a, z) (front_entries before kind (c + 1) (t ++ e) (omega (arith, w.wrote.small)) k.0 (omega arith) f);
    }

run_as : (buf : List ℕ) (kind c d : ℕ) (t u : List ℕ) (n : ℕ) (after : List ℕ) → c ≡ d → t ≡ u → Run buf kind c t n after → Run buf kind d u n after
run_as buf kind c d t u n after p q r = rw (← p, ← q) r

pub made_run : {buf : List ℕ} {kind : ℕ} {es : List (List ℕ)} {n : ℕ} {after : List ℕ} → Made buf kind es n after → Run buf kind (length es) (joined es) n after
made_run {buf} {kind} (started e n h) =
    run_as buf kind 1 1 e (e ++ []) n (start_of buf kind e).buffer refl (sym (append-nil e)) (start_run buf kind e n h)
made_run {buf} {kind} (appended es m before e n r h) =
    run_as buf kind (length es + 1) (length (es ++ (e ∷ []))) (joined es ++ e) (joined (es ++ (e ∷ []))) n (append_of before kind e).buffer
    (sym (length-append es (e ∷ []))) (sym (joined_more es e)) (append_run buf kind (length es) (joined es) m before e n (made_run r) h)

pub made_bytes : {buf : List ℕ} {kind : ℕ} {es : List (List ℕ)} {n : ℕ} {after : List ℕ} → Made buf kind es n after
    → (n ≡ length (joined es) + 10) × (after ≡ at_front (message kind (length es) (joined es)) buf)
made_bytes r = let w = made_run r in (w.size, w.front)
