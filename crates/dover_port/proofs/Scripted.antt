-- What the script of a port in memory gives, and where it lets a call fail.
use Rattle.std.proofs.Common.{◌≡◌, ℕ, ◌-◌, ◌≤◌, ◌<◌, min, List, [], length, drop, ap, subst, ◌∙◌, arith, length-drop}
use Rattle.std.proofs.lemmas.List.{drop_all}
use Rattle.dover_port.specs.MustFail.{MustFail, end_of}

-- a call fails also by equal counts
pub fails_so : {failing failing' : List ℕ} {number number' moves moves' bytes bytes' count count' : ℕ} (room : ℕ)
    → failing ≡ failing' → number ≡ number' → moves ≡ moves' → bytes ≡ bytes' → count ≡ count'
    → MustFail failing number moves bytes count room → MustFail failing' number' moves' bytes' count' room
fails_so {failing' = failing'} {number = number} {number' = number'} {moves = moves} {moves' = moves'} {bytes = bytes}
    {bytes' = bytes'} {count = count} room same_failing same_number same_moves same_bytes same_count fails =
    subst (λ z. MustFail failing' number' moves' bytes' z room) same_count
    (subst (λ z. MustFail failing' number' moves' z count room) same_bytes
    (subst (λ z. MustFail failing' number' z bytes count room) same_moves
    (subst (λ z. MustFail failing' z moves bytes count room) same_number
    (subst (λ z. MustFail z number moves bytes count room) same_failing fails))))

-- how much a read gives
pub read_counted : {ends ends' : List ℕ} {len len' end count : ℕ} (at room : ℕ) → count ≡ min (end - at) room
    → end ≡ end_of ends at len → ends ≡ ends' → len ≡ len' → count ≡ min (end_of ends' at len' - at) room
read_counted {ends' = ends'} {len = len} at room counted exact same_ends same_len = counted
    ∙ ap (λ e. min (e - at) room)
    (exact ∙ ap (λ z. end_of z at len) same_ends ∙ ap (λ z. end_of ends' at z) same_len)

-- a place that no piece goes past is the end
at_end : (at end long : ℕ) → end ≤ at → (at < long → at < end) → long ≤ at
at_end at end long past more = grind arith

-- a read gives nothing exactly where nothing is left
pub read_ends : (input : List ℕ) (at end count room : ℕ) → 0 < room → at ≤ end → end ≤ length input
    → (at < length input → at < end) → count ≡ min (end - at) room
    → (count ≡ 0 → drop at input ≡ []) × (drop at input ≡ [] → count ≡ 0)
read_ends input at end count room some least most more counted = (
  (λ none. drop_all at input (at_end at end (length input) (omega (arith, none, some, counted)) more)),
  (λ e. omega (arith, counted, most, ap length e, length-drop at input)),
)
