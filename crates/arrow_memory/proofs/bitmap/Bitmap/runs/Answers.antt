use Rattle.arrow_memory.proofs.Common.{◌+◌, ◌≤◌, ap, length, ◌∙◌, arith}
use Rattle.arrow_memory.proofs.WordLemmas.{length-bits_in, part_seen}
use Rattle.arrow_memory.proofs.bitmap.Bitmap.runs.Goals as goal

inside : (c : goal.After-deref-words) → c.args.start + c.args.len ≤ c.self.inside.len
inside c =
    let map = c.self.inside in
    omega (arith, c.requires, ap length c.self.view_is, length-bits_in map.words.value.items map.offset map.len)

pub overflow_add-place : goal.overflow_add-place
overflow_add-place c = record { fits = omega (arith, inside c, c.self.invariant.fits) }

pub overflow_add-place-2 : goal.overflow_add-place-2
overflow_add-place-2 c = record { fits = omega (arith, inside c, c.self.invariant.fits) }

pub rest_of_word-word-requires-clause-within : goal.rest_of_word-word-requires-clause-within
rest_of_word-word-requires-clause-within c =
    let read = c.deref-words.ensures.value ∙ ap (λ v. v.items) c.deref.ensures in
    omega (arith, inside c, c.self.invariant.within, ap length read)

pub invariant_of-result : goal.invariant_of-result
invariant_of-result c =
    let read = c.deref-words.ensures.value ∙ ap (λ v. v.items) c.deref.ensures in
    record {
      holds =
          record {
            within = omega (arith, inside c.before, c.self.invariant.within, ap length read);
            fits = omega (arith, inside c.before, c.self.invariant.fits);
          };
      in_word = c.rest_of_word-word.ensures.in_word;
      within = omega (arith, c.rest_of_word-word.ensures.within);
      bits = c.rest_of_word-word.ensures.bits;
    }

pub returns : goal.returns
returns c =
    let map = c.self.inside in
    let read = c.deref-words.ensures.value ∙ ap (λ v. v.items) c.deref.ensures in
    part_seen c.deref-words.result.now map.words.value.items map.offset map.len c.args.start c.args.len c.args.self.now read c.self.view_is c.requires
