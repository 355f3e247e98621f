-- A number and the 64-bit float that equals it, in units of the least float, 2 to the -1074.
use Rattle.std.specs.Prelude.{◌≡◌, ℕ, ◌+◌, ◌-◌, ◌*◌, ◌%◌, ◌^◌, ◌≤◌, ◌<◌, Bool, T, eqb, Float, Option, Some, None, if◌then◌else◌}
use Rattle.std.specs.Float.{binary64}
use Rattle.std.specs.Float.Ieee.{fits}
use Rattle.std.specs.Float.Ieee.Exact.{HasValue}
use Rattle.fdoca.specs.Reasons.{Over53}

-- The 64-bit float v is m times 2 to the p units, with the sign s.
pub record Units (v : Float) (s : Bool) (m p : ℕ) : Type 0 where
  pub worth : HasValue v s (m * 2 ^ p) (2 ^ 1074)
  pub held : T (fits binary64 v)

-- It is given, but where m has more than 53 significant bits.
pub data Hexadecimal (s : Bool) (m p : ℕ) : Option Float → Type 0 where
  exact : {v : Float} → Units v s m p → Hexadecimal s m p (Some v)
  over : Over53 m → Hexadecimal s m p None

-- A significand of at most 53 bits, or an odd one.
abbrev pub Narrow : ℕ → Type 0
Narrow q = 2 ^ 53 ≤ q → q % 2 ≡ 1

-- Significand and power of a binary float: `hidden` is the weight of the 1 before the fraction t, `power` that of the characteristic 1.
abbrev pub significand_by : (hidden c t : ℕ) → ℕ
significand_by hidden c t = if eqb c 0 then t else hidden + t

abbrev pub power_by : (power c : ℕ) → ℕ
power_by power c = if eqb c 0 then power else power + c - 1

-- It is given, but where its characteristic c is above the maximum.
pub data Binary (s : Bool) (c t hidden maximum power : ℕ) : Option Float → Type 0 where
  in_range : {v : Float} → c ≤ maximum → Units v s (significand_by hidden c t) (power_by power c) → Binary s c t hidden maximum power (Some v)
  above : maximum < c → Binary s c t hidden maximum power None
