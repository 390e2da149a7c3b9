use Rattle.arrow_choice.proofs.Common.{arith, ◌≡◌, ◌+◌, ◌*◌, ◌<◌, ◌∙◌, ℕ, Bool, false, if◌then◌else◌, subst, sym, true, ◌==◌, OnOk, option_copied, bit_at, last_of, total, AppendsRows, pieces, row_chosen, row_under, rows_from}
use Rattle.arrow_choice.proofs.ChosenLemmas.{set_bit, unset_bit}
use Rattle.arrow_choice.proofs.ChosenRuns.{one_side}
use Rattle.arrow_choice.proofs.if_then_else.bytes.append_word.Given as given
use Rattle.arrow_choice.proofs.if_then_else.bytes.append_word.Goals as goal
use Rattle.arrow_choice.proofs.if_then_else.bytes.append_word.Goals.{After-word-word}

-- the rows are those of one side where all bits of the word are alike
alike : (g : given.Over) (c : After-word-word g) (b : Bool) → ((k : ℕ) → k < 64 → (bit_at c.word-word.result k == 1) ≡ b) → rows_from (row_under (option_copied c.args.validity) (if b then pieces c.args.left.0.now c.args.left.1.now else pieces c.args.right.0.now c.args.right.1.now)) (64 * c.args.j) c.args.count ≡ rows_from (row_chosen (option_copied c.args.validity) c.args.bits.now (pieces c.args.left.0.now c.args.left.1.now) (pieces c.args.right.0.now c.args.right.1.now)) (64 * c.args.j) c.args.count
alike g c b same =
    one_side (option_copied c.args.validity) c.args.bits.now _ _ b (64 * c.args.j) c.args.count (λ k below. sym (c.word-word.ensures.each k (omega (arith, below, c.requires.in_word))) ∙ same k (omega (arith, below, c.requires.in_word)))

pub returns-then-word-eq0-clause-ok : goal.returns-then-word-eq0-clause-ok
returns-then-word-eq0-clause-ok g c =
    let same = alike g (goal.at.returns-then-word-eq0-clause-ok g c).After-word-word false (λ k below. unset_bit c.word-word.result k c.if-word-eq0.true) in
    subst (λ rows. OnOk c.append_run.result (AppendsRows rows c.args.offsets.now c.args.bytes.now.items c.append_run.new.offsets c.append_run.new.bytes.items)) same c.append_run.ensures.ok

pub returns-then-word-eq0-clause-overflow : goal.returns-then-word-eq0-clause-overflow
returns-then-word-eq0-clause-overflow g c overflows =
    let same = alike g (goal.at.returns-then-word-eq0-clause-overflow g c).After-word-word false (λ k below. unset_bit c.word-word.result k c.if-word-eq0.true) in
    subst (λ rows. g.O.Index.greatest < last_of c.args.offsets.now + total rows) same (c.append_run.ensures.overflow overflows)

pub returns-then-word-clause-ok : goal.returns-then-word-clause-ok
returns-then-word-clause-ok g c =
    let same = alike g (goal.at.returns-then-word-clause-ok g c).After-word-word true (λ k below. set_bit c.word-word.result k c.if-word.true below) in
    subst (λ rows. OnOk c.append_run-then-word.result (AppendsRows rows c.args.offsets.now c.args.bytes.now.items c.append_run-then-word.new.offsets c.append_run-then-word.new.bytes.items)) same c.append_run-then-word.ensures.ok

pub returns-then-word-clause-overflow : goal.returns-then-word-clause-overflow
returns-then-word-clause-overflow g c overflows =
    let same = alike g (goal.at.returns-then-word-clause-overflow g c).After-word-word true (λ k below. set_bit c.word-word.result k c.if-word.true below) in
    subst (λ rows. g.O.Index.greatest < last_of c.args.offsets.now + total rows) same (c.append_run-then-word.ensures.overflow overflows)
