-- What holds of each element of a list.
use mathlib.Core.List.{List, Memᴰ}

abbrev pub Each : {A : Type 0} → (A → Type 0) → List A → Type 0
Each {A} P l = (a : A) → Memᴰ a l → P a
