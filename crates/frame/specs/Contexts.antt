-- R9, R11. The context of a notification: a count of at most 64, and so many bytes of the entry.
use Rattle.std.specs.Prelude.{ℕ, ◌+◌, ◌≤◌, ◌<◌, ◌≡◌, List, [], ◌∷◌, ◌++◌, map, cond, true, length}
use Rattle.octets.specs.Numbers.{be32_at, bytes16, bytes32}
use Rattle.octets.specs.Zeros.{zeros}
use Rattle.frame.specs.Limits.{notification, least_notification, greatest_context}
use Rattle.frame.specs.Entry.{least_entry, context_count, parameter_offset, entry_size, well_formed}

-- R9. Bytes laid out as a notification that counts n bytes of context and has so many; it has no event parameters, all else is zeros.
abbrev pub notification_laid : ℕ → ℕ → List ℕ
notification_laid n bytes = bytes32 (least_notification + bytes) ++ (zeros 8 ++ (1 ∷ (bytes16 n ++ zeros (bytes + 8))))

-- R14. 1 where they are a well formed entry, else 0.
abbrev pub well_laid : ℕ → ℕ → ℕ
well_laid n bytes = cond (well_formed notification (notification_laid n bytes)) 1 0

-- R9. The counts that are worked out.
abbrev pub context_counts : List ℕ
context_counts = 0 ∷ 1 ∷ 63 ∷ 64 ∷ 65 ∷ []

-- Theorem. The context of a well formed entry: at most 64 bytes, and the parameters start behind it, within the entry.
pub record ContextTells : Type 0 where
  pub bounded : (kind : ℕ) (e : List ℕ) → well_formed kind e ≡ true → context_count kind e ≤ greatest_context
  pub within : (kind : ℕ) (e : List ℕ) → well_formed kind e ≡ true → parameter_offset kind e ≤ length e
  -- other entries have none
  pub others : (kind : ℕ) (e : List ℕ) → (kind ≡ notification → ⊥) → parameter_offset kind e ≡ least_entry kind
  -- a count above 64, or a context that the entry's size does not reach behind, is no entry, at the front of whatever bytes
  pub long : (kind : ℕ) (t : List ℕ) → greatest_context < context_count kind t → entry_size kind t ≡ 0
  pub past : (kind : ℕ) (t : List ℕ) → be32_at t 0 < parameter_offset kind t → entry_size kind t ≡ 0
  -- contexts of 0, 1, 63, 64 and 65 bytes, computed: all there, one byte missing, one byte more than is counted
  pub worked : map (λ n. well_laid n n) context_counts ≡ 1 ∷ 1 ∷ 1 ∷ 1 ∷ 0 ∷ []
  pub missing : map (λ n. well_laid (n + 1) n) context_counts ≡ 0 ∷ 0 ∷ 0 ∷ 0 ∷ 0 ∷ []
  pub more : map (λ n. well_laid n (n + 1)) context_counts ≡ 0 ∷ 0 ∷ 0 ∷ 0 ∷ 0 ∷ []
