use Rattle.arrow_memory.proofs.Common.{◌≡◌, ◌*◌, length, drop, chunks_rest, chunks_size}
use Rattle.arrow_memory.proofs.BitmapLemmas.{Packs}
use Rattle.arrow_memory.proofs.bitmap.Bitmap.from_bools.Given as goal

-- the words hold the bits before those that are left
abbrev pub invariant-loop-chunk : goal.invariant-loop-chunk
invariant-loop-chunk l =
    Packs l.words.items l.bits × (chunks_rest l.chunk-iterator ≡ drop (64 * length l.words.items) l.bits) × (chunks_size l.chunk-iterator ≡ 64)
