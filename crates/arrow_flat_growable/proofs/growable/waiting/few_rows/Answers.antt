use Rattle.arrow_flat_growable.proofs.Common.{arith, ◌≡◌, ◌∙◌, None, Some, ap, sym, length, length-map, bits_of_slice, length-bits_of_slice, row_bytes, stored_rows, filled, sliced}
use Rattle.std.specs.Prelude.{option_copied}
use Rattle.arrow_flat_growable.proofs.GrownRowLemmas.{all_set}
use Rattle.arrow_flat_growable.proofs.WaitingLemmas.{lie_there}
use Rattle.arrow_flat_growable.proofs.growable.waiting.few_rows.Goals as goal

pub returns-in-None : goal.returns-in-None
returns-in-None g c =
    let start = c.args.start in
    let len = c.args.len in
    let xs = c.args.array.now.values in
    let none : c.args.array.now.validity ≡ None = sym c.validity.ensures.same ∙ ap option_copied c.in-None.is in
    let all : stored_rows c.args.array.now.validity xs start len ≡ sliced (row_bytes xs) start len = ap (λ v. stored_rows v xs start len) none ∙ all_set (row_bytes xs) start len c.requires.within in
    λ arrays bound. (lie_there arrays xs c.args.index start len bound c.requires.some c.requires.within, ap (λ p. sliced (row_bytes p) start len) bound.1 ∙ sym all)

pub returns-in-Some : goal.returns-in-Some
returns-in-Some g c =
    let start = c.args.start in
    let len = c.args.len in
    let array = c.args.array.now in
    let rows = row_bytes array.values in
    let bits = c.from_part.result in
    let valid : array.validity ≡ Some c.in-Some.validity.now = sym c.validity.ensures.same ∙ ap option_copied c.in-Some.is in
    let is : bits ≡ bits_of_slice array.validity start len = c.from_part.ensures ∙ ap (λ v. bits_of_slice v start len) (sym valid) in
    let long : length bits ≡ len = ap length is ∙ length-bits_of_slice array.validity _ start len c.validity.ensures.fits (omega (arith, c.requires.within, length-map rows g.K.ByteKind.slot)) in
    λ arrays bound.
    let waits = c.rows_under-in-Some.ensures array.values (omega (arith, c.requires.within, long)) arrays bound in
    (waits.0, waits.1 ∙ (λ t. filled (is t) (sliced rows start (long t))))
