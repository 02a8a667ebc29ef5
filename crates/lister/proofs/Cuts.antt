-- However the input is cut, what is printed is its listing. Assumes nothing.
use Prim.Native.Nat.{ℕ, zero, suc, ◌+◌, ◌≤◌}
use mathlib.Core.Path.{◌≡◌, refl, sym, ap, ◌∙◌}
use mathlib.Core.List.{List, [], ◌∷◌, ◌++◌, append_assoc, append-nil}
use mathlib.Core.Bool.{cond, true, false, true≢false}
use native.Mathlib.Omega.{arith}
use native.Mathlib.Nat.{add-zero}
use lib.ListN.{length, drop, length-drop}
use lib.Seq.{length-take-le, drop-drop, take-append-le, drop-append-le}
use Rattle.laws.specs.Lists.{joined}
use Rattle.frame.specs.Limits.{greatest_size}
use Rattle.frame.specs.Decide.{decide, settled}
use Rattle.frame.specs.declared.Decision.{Decision}
use Rattle.numbers.specs.declared.Fault.{Fault}
use Rattle.frame.specs.declared.Decision.TheVariants.{Undecided, Faulty, Sound}
use Rattle.frame.proofs.Ways.{deciding}
use Rattle.frame.proofs.Sounds.{sound_at}
use Rattle.split.specs.Split.{sound_messages}
use Rattle.split.proofs.Splits.{sound_none_lem, sound_then_lem}
use Rattle.lister.specs.Listing.{bytes_of, lines_of, last_by, last_line, listed_bytes, unlisted, listing_from, listing}
use Rattle.lister.specs.Pieces.{over_by, over, piece_text, printed, Pieces}
use Rattle.lister.proofs.Walks.{Unsound, nothing_unsound, bytes_append, lines_append}

-- bytes that are not sound at the front, or the message there
data Front (s : List ℕ) : Type 0 where
  none : Unsound s → Front s
  first : (n : ℕ) → decide s ≡ Sound n → Front s

front : (s : List ℕ) → Front s
front s = go (decide s) refl
  where
    go : (d : Decision) → decide s ≡ d → Front s
    go Undecided e = none (λ n q. let z : ◌≡◌ {A = ℕ} 0 1 = cc in omega arith)
    go (Faulty f k) e = none (λ n q. let z : ◌≡◌ {A = ℕ} 0 1 = cc in omega arith)
    go (Sound n) e = first n e

module _ (s : List ℕ) (u : Unsound s) where
  none_listed : listed_bytes s ≡ 0
  unfolding listed_bytes bytes_of
  none_listed = ap bytes_of (sound_none_lem s u)

  none_unlisted : unlisted s ≡ s
  unfolding unlisted
  none_unlisted = ap (λ (k : ℕ). drop k s) none_listed

module _ (s : List ℕ) (n : ℕ) (e : decide s ≡ Sound n) where
  sound_within : n ≤ length s
  sound_within = (sound_at s n e).high

  shorter : (k : ℕ) → length s ≤ suc k → length (drop n s) ≤ k
  shorter k h = let w = sound_at s n e in omega (arith, length-drop n s, w.low, w.high)

  first_bytes : listed_bytes s ≡ n + listed_bytes (drop n s)
  unfolding listed_bytes bytes_of
  first_bytes = ap bytes_of (sound_then_lem s n e) ∙ ap (λ (k : ℕ). k + bytes_of (sound_messages (drop n s))) (length-take-le n s sound_within)

  first_unlisted : unlisted s ≡ unlisted (drop n s)
  unfolding unlisted
  first_unlisted = ap (λ (k : ℕ). drop k s) first_bytes ∙ sym (drop-drop (listed_bytes (drop n s)) n s)

within_listed : (k : ℕ) (s : List ℕ) → length s ≤ k → listed_bytes s ≤ length s
within_listed zero s h = rw (none_listed s (nothing_unsound s h)) (omega arith)
within_listed (suc k) s h = go (front s) (λ n e. within_listed k (drop n s) (shorter s n e k h))
  where
    go : Front s → ((n : ℕ) → decide s ≡ Sound n → listed_bytes (drop n s) ≤ length (drop n s)) → listed_bytes s ≤ length s
    go (none u) i = rw (none_listed s u) (omega arith)
    go (first n e) i = omega (arith, i n e, first_bytes s n e, length-drop n s, sound_within s n e)

pub listed_within : (s : List ℕ) → listed_bytes s ≤ length s
listed_within s = within_listed (length s) s (omega arith)

left_unsound : (k : ℕ) (s : List ℕ) → length s ≤ k → Unsound (unlisted s)
left_unsound zero s h = let u = nothing_unsound s h in rw (none_unlisted s u) u
left_unsound (suc k) s h = go (front s) (λ n e. left_unsound k (drop n s) (shorter s n e k h))
  where
    go : Front s → ((n : ℕ) → decide s ≡ Sound n → Unsound (unlisted (drop n s))) → Unsound (unlisted s)
    go (none u) i = rw (none_unlisted s u) u
    go (first n e) i = rw (first_unlisted s n e) (i n e)

-- what stands behind s is read after what s leaves
pub messages_more : (k : ℕ) (s t : List ℕ) → length s ≤ k → sound_messages (s ++ t) ≡ sound_messages s ++ sound_messages (unlisted s ++ t)
unfolding settled
messages_more zero s t h =
    let u = nothing_unsound s h in
    rw (none_unlisted s u, sound_none_lem s u)
messages_more (suc k) s t h = go (front s) (λ n e. messages_more k (drop n s) t (shorter s n e k h))
  where
    go : Front s → ((n : ℕ) → decide s ≡ Sound n → sound_messages (drop n s ++ t) ≡ sound_messages (drop n s) ++ sound_messages (unlisted (drop n s) ++ t))
        → sound_messages (s ++ t) ≡ sound_messages s ++ sound_messages (unlisted s ++ t)
    go (none u) i = rw (none_unlisted s u, sound_none_lem s u)
    go (first n e) i =
        let d : decide (s ++ t) ≡ Sound n = deciding.lasting s t (ap settled e) ∙ e in
        let w = sound_within s n e in
        sound_then_lem (s ++ t) n d
        ∙ rw (take-append-le n s t w, drop-append-le n s t w, i n e, sound_then_lem s n e, first_unlisted s n e)

pub listed_more : (s t : List ℕ) → listed_bytes (s ++ t) ≡ listed_bytes s + listed_bytes (unlisted s ++ t)
unfolding listed_bytes
listed_more s t = ap bytes_of (messages_more (length s) s t (omega arith)) ∙ bytes_append (sound_messages s) (sound_messages (unlisted s ++ t))

pub unlisted_more : (s t : List ℕ) → unlisted (s ++ t) ≡ unlisted (unlisted s ++ t)
unfolding unlisted
unlisted_more s t =
    ap (λ (k : ℕ). drop k (s ++ t)) (listed_more s t)
    ∙ sym (drop-drop (listed_bytes (drop (listed_bytes s) s ++ t)) (listed_bytes s) (s ++ t))
    ∙ ap (drop (listed_bytes (drop (listed_bytes s) s ++ t))) (drop-append-le (listed_bytes s) s t (listed_within s))

-- the listing of s and what stands behind it
pub listing_more : (at : ℕ) (s t : List ℕ) → listing_from at (s ++ t) ≡ lines_of at (sound_messages s) ++ listing_from (at + listed_bytes s) (unlisted s ++ t)
unfolding listing_from listed_bytes
listing_more at s t =
    let u = unlisted s ++ t in
    let m = messages_more (length s) s t (omega arith) in
    let b : at + listed_bytes (s ++ t) ≡ at + listed_bytes s + listed_bytes u = omega (arith, listed_more s t) in
    ap (λ (k : ℕ). lines_of at (sound_messages (s ++ t)) ++ last_line k (unlisted (s ++ t))) b
    ∙ rw (unlisted_more s t, m, lines_append at (sound_messages s) (sound_messages u)) (append_assoc (lines_of at (sound_messages s)) _ _)

-- a fault stands whatever follows
listing_stopped : (at : ℕ) (f : Fault) (n : ℕ) (u t : List ℕ) → decide u ≡ Faulty f n → listing_from at (u ++ t) ≡ last_line at u
unfolding listing_from last_line last_by settled lines_of
listing_stopped at f n u t e =
    let d : decide (u ++ t) ≡ Faulty f n = deciding.lasting u t (ap settled e) ∙ e in
    let x : Unsound (u ++ t) = λ k q. let z : ◌≡◌ {A = ℕ} 0 1 = cc in omega arith in
    rw (sound_none_lem (u ++ t) x, none_listed (u ++ t) x, none_unlisted (u ++ t) x, d, e, add-zero)

-- the end of the input
pub end_over : (s : List ℕ) → over true s ≡ true
unfolding over over_by
end_over s = go (decide (unlisted s))
  where
    go : (d : Decision) → over_by true d ≡ true
    go Undecided = refl
    go (Faulty f n) = refl
    go (Sound n) = refl

-- what a piece that does not end the input leaves
data Left (s : List ℕ) : Type 0 where
  stops : (f : Fault) (n : ℕ) → decide (unlisted s) ≡ Faulty f n → over false s ≡ true → Left s
  goes : decide (unlisted s) ≡ Undecided → over false s ≡ false → Left s

left : (s : List ℕ) → Left s
unfolding over over_by
left s = go (decide (unlisted s)) refl
  where
    go : (d : Decision) → decide (unlisted s) ≡ d → Left s
    go Undecided e = goes e (ap (over_by false) e)
    go (Faulty f n) e = stops f n e (ap (over_by false) e)
    go (Sound n) e = absurd (left_unsound (length s) s (omega arith) n e)

listing_parts : (at : ℕ) (s : List ℕ) → lines_of at (sound_messages s) ++ last_line (at + listed_bytes s) (unlisted s) ≡ listing_from at s
unfolding listing_from
listing_parts at s = refl

printed_from : (at : ℕ) (held : List ℕ) (ps : List (List ℕ)) → printed at held ps ≡ listing_from at (held ++ joined ps)
unfolding printed piece_text
printed_from at held [] = rw (append-nil held, end_over held) (listing_parts at held)
printed_from at held (p ∷ ps) =
    let s = held ++ p in
    rw (← append_assoc held p (joined ps), listing_more at s (joined ps))
    (go s (left s) (printed_from (at + listed_bytes s) (unlisted s) ps))
  where
    go : (s : List ℕ) → Left s → printed (at + listed_bytes s) (unlisted s) ps ≡ listing_from (at + listed_bytes s) (unlisted s ++ joined ps)
        → (lines_of at (sound_messages s) ++ cond (over false s) (last_line (at + listed_bytes s) (unlisted s)) [])
        ++ cond (over false s) [] (printed (at + listed_bytes s) (unlisted s) ps)
        ≡ lines_of at (sound_messages s) ++ listing_from (at + listed_bytes s) (unlisted s ++ joined ps)
    go s (stops f n e o) i = rw (o, listing_stopped (at + listed_bytes s) f n (unlisted s) (joined ps) e) (append-nil _)
    go s (goes e o) i = rw (o, append-nil, i)

pub pieces_laws : Pieces
unfolding listing
pieces_laws =
    record {
      whole = λ ps. printed_from 0 [] ps;
      from = printed_from;
      all = λ s. left_unsound (length s) s (omega arith);
      short = λ s o. short s (left s) o;
    }
  where
    short : (s : List ℕ) → Left s → over false s ≡ false → length (unlisted s) ≤ greatest_size
    short s (stops f n e p) o = absurd (true≢false (sym p ∙ o))
    short s (goes e p) o = deciding.short (unlisted s) e
