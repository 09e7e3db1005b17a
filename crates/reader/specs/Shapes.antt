-- The entries that both tables have.
use Rattle.formulas.specs.declared.Expr.{Expr}
use Rattle.formulas.specs.declared.Expr.TheVariants as ex
use Rattle.formulas.specs.declared.Node.{Node}
use Rattle.formulas.specs.declared.Node.TheVariants as nd

-- The entry of the expression table that is made as one of the formula table; what no expression has is false there.
abbrev pub as_expr : Node → Expr
as_expr nd.True = ex.True
as_expr (nd.Not c) = ex.Not c
as_expr (nd.Or c d) = ex.Or c d
as_expr (nd.And c d) = ex.And c d
as_expr _ = ex.False
