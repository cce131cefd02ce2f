pub mod StripeOps
