-- The relation that a value of the program's enum stands for.
use Rattle.arrow_types.specs.Relation.{Relation as RowRelation, eq, neq, lt, lt_eq, gt, gt_eq}
use Rattle.arrow_relate.specs.declared.relation.Relation.{Relation}
use Rattle.arrow_relate.specs.declared.relation.Relation.TheVariants.{Eq, Neq, Lt, LtEq, Gt, GtEq}

abbrev pub relation_of : Relation → RowRelation
relation_of Eq = eq
relation_of Neq = neq
relation_of Lt = lt
relation_of LtEq = lt_eq
relation_of Gt = gt
relation_of GtEq = gt_eq
