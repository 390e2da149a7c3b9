use Rattle.arrow_flat_growable.proofs.Common.{◌≡◌, ◌∙◌, ◌++◌, ◌<◌, None, ap, sym, subst, sliced, row_bytes, stored_rows, total}
use Rattle.std.specs.Prelude.{option_copied}
use Rattle.arrow_flat_growable.proofs.GrownRowLemmas.{all_set}
use Rattle.arrow_flat_growable.proofs.ResultLemmas.{on_ok}
use Rattle.arrow_flat_growable.proofs.growable.byte_rows.GrownBytes.append.Goals as goal

pub returns-in-None-clause-ok : goal.returns-in-None-clause-ok
returns-in-None-clause-ok g c =
    let xs = c.args.array.now.values in
    let none : c.args.array.now.validity ≡ None = sym c.validity.ensures.same ∙ ap option_copied c.in-None.is in
    let all : stored_rows c.args.array.now.validity xs c.args.start c.args.len ≡ sliced (row_bytes xs) c.args.start c.args.len = ap (λ v. stored_rows v xs c.args.start c.args.len) none ∙ all_set (row_bytes xs) c.args.start c.args.len c.requires.within in
    on_ok c.append_all.result c.append_all.ensures.ok (λ is. is ∙ ap (λ rows. row_bytes c.args.self.now.1 ++ rows) (sym all))

pub returns-in-None-clause-overflow : goal.returns-in-None-clause-overflow
returns-in-None-clause-overflow g c over =
    let xs = c.args.array.now.values in
    let none : c.args.array.now.validity ≡ None = sym c.validity.ensures.same ∙ ap option_copied c.in-None.is in
    let all : stored_rows c.args.array.now.validity xs c.args.start c.args.len ≡ sliced (row_bytes xs) c.args.start c.args.len = ap (λ v. stored_rows v xs c.args.start c.args.len) none ∙ all_set (row_bytes xs) c.args.start c.args.len c.requires.within in
    subst (λ rows. g.O.Index.greatest < total (row_bytes c.args.self.now.1 ++ rows)) (sym all) (c.append_all.ensures.overflow over)
