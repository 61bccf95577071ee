-- The library's version as one number, for a caller that compares it with its header's: three digits each for the minor version and the patch.
use Rattle.std.specs.Prelude.{ℕ, ◌+◌, ◌*◌}

abbrev pub version_of : ℕ → ℕ → ℕ → ℕ
version_of major minor patch = 1000000 * major + 1000 * minor + patch

abbrev pub version : ℕ
version = version_of 0 8 0
