-- Numbers of any width, as far as ends of intervals need them.
use Rattle.std.specs.Prelude.{ℤ, pos, int_lt, Option, Some, None, if◌then◌else◌}
use Rattle.spx_num.specs.Widths.{fits}
use Rattle.spx_simplify.specs.declared.products.Wide.{Wide}
use Rattle.spx_simplify.specs.declared.products.Wide.TheVariants.{Below, Within, Above}

-- the number, where it fits, or the side on which it lies
abbrev pub wide : ℤ → Wide
wide z = if fits z then Within z else (if int_lt z (pos 0) then Below else Above)

-- the less of two numbers
abbrev pub least : Wide → Wide → Wide
least (Within m) (Within n) = if int_lt n m then Within n else Within m
least Below b = Below
least Above b = b
least (Within m) Below = Below
least (Within m) Above = Within m

-- the greater of two numbers
abbrev pub greatest : Wide → Wide → Wide
greatest (Within m) (Within n) = if int_lt m n then Within n else Within m
greatest Above b = Above
greatest Below b = b
greatest (Within m) Above = Above
greatest (Within m) Below = Within m

-- the end of an interval at this number, if it fits
abbrev pub end_at : Wide → Option ℤ
end_at (Within n) = Some n
end_at Below = None
end_at Above = None
